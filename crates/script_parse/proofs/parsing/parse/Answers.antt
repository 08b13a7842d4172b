use Rattle.script_parse.proofs.Told.{found_is, only_is, fault_is}
use Rattle.script_parse.proofs.parsing.parse.Goals as goal

pub returns : goal.returns
returns c = record {
  found = found_is c.args.bytes.now c.read_text.result c.read_text.ensures;
  only = only_is c.args.bytes.now c.read_text.result c.read_text.ensures;
  fault = fault_is c.args.bytes.now c.read_text.result c.read_text.ensures;
}

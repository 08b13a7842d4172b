-- The grammar of trace files, as a relation between a text and the run that it tells (this
-- project).
use Rattle.std.specs.Prelude.{◌≡◌, ℕ, ◌≤◌, List, length, All}
use Rattle.pct_ask.specs.NameLists.{NameLists}
use Rattle.pct_ask.specs.TraceText.{TraceHead, trace_text}
use Rattle.pct_ask.specs.declared.event.Event.{Event}
use Rattle.pct_ask.specs.declared.verdict.Verdict.{Verdict}
use Rattle.trace_text.specs.Lawful.{IsHead, IsStep, IsEnd}
use Rattle.trace_text.specs.declared.file.Header.{Header}
use Rattle.trace_text.specs.declared.file.TraceFile.{TraceFile}

-- the head that is written of a file
abbrev pub head_of : Header → TraceHead
head_of header = record {
  version = header.version;
  order = header.order;
  points = header.points;
  limit = header.limit;
}

-- a file of its three parts
abbrev pub file_of_parts : Header → List Event → Verdict → TraceFile
file_of_parts header events verdict = record { header = header; events = events; verdict = verdict }

-- What may be written: the parts are lawful under the names, and there are at most `limit` steps.
pub record IsWritableFile (names : NameLists) (file : TraceFile) : Type 0 where
  pub head : IsHead names (head_of file.header)
  pub few : length file.events ≤ file.header.limit
  pub steps : All (IsStep names file.header.version) file.events
  pub end : IsEnd names file.header.version file.verdict

-- The text is a trace of the run: it is made, line by line, of the head, of one line for each step,
-- numbered from 1, and of the verdict, each value in its one spelling; and it has at most
-- 16,777,216 bytes.
pub record IsTrace (bytes : List ℕ) (names : NameLists) (file : TraceFile) : Type 0 where
  pub run : IsWritableFile names file
  pub small : length bytes ≤ 16777216
  pub text : bytes ≡ trace_text (head_of file.header) names file.events file.verdict

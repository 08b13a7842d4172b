-- Small theorems that read the definitions on known texts.
use Rattle.std.specs.Prelude.{◌≡◌, true, false, [], ◌∷◌, codes, refl}
use Rattle.std.specs.Fmt.{digits}
use Rattle.pct_ask.specs.NameLists.{NameLists}
use Rattle.pct_ask.specs.declared.verdict.Verdict.TheVariants.{Failed}
use Rattle.directive.specs.DirectiveText.{directive_text, after_line}
use Rattle.directive.specs.Forms.{IsLowLine}
use Rattle.pct_ask.specs.Pieces.{pieces_of}
use Rattle.directive.specs.Lines.{line_at}

-- three threads
abbrev pub some_names : NameLists
some_names = record {
  threads = codes "A" ∷ codes "B" ∷ codes "C" ∷ [];
  vars = codes "x" ∷ [];
  mutexes = [];
  conds = [];
  sems = [];
  barriers = [];
  rwlocks = [];
}

-- the directive by which the second thread's write is lost
pub lost_update :
    directive_text some_names (record {
      low = 1;
      events = record { thread = 0; number = 1 } ∷ [];
      verdict = Failed 2 15;
    })
    ≡ codes "directive 1\nlow B\nafter A 1\nverdict failed C 15\n"
unfolding digits
lost_update = refl

pub latest : after_line (codes "B") 100000 ≡ codes "after B 100000"
unfolding digits
latest = refl

pub low_b : IsLowLine (codes "low B") (codes "B")
low_b = record { lawful = refl; spelled = refl }

-- a line with its LF, and what stands after the last LF
pub second_line : line_at (pieces_of (codes "directive 1\nlow B\n")) 2
    ≡ record { text = codes "low B"; whole = true }
second_line = refl

pub third_line : line_at (pieces_of (codes "directive 1\nlow B\nafter")) 3
    ≡ record { text = codes "after"; whole = false }
third_line = refl

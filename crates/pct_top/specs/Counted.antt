-- The count of a certified directive, said of the program: where `certify` is done, so many of the
-- choices of an order and points lead to the directive's verdict (this project).
use Rattle.std.specs.Prelude.{◌≡◌, ℕ, ◌*◌, ◌^◌, ◌≤◌, List, [], ◌∷◌, ◌++◌, length, Ok, take}
use Rattle.std.specs.List.{flat_map}
use Rattle.pct_ask.specs.TraceText.{line_text}
use Rattle.pct_ask.specs.declared.Deal.{Deal}
use Rattle.script_tree.specs.ScriptText.{ScriptText}
use Rattle.script_tree.specs.DealOf.{IsDealOf}
use Rattle.script_tree.specs.Grammar.{Spells}
use Rattle.script_body.specs.Bodies.{bodies_of}
use Rattle.directive.specs.DirectiveText.{DirectiveText}
use Rattle.directive.specs.Directive.{IsDirective}
use Rattle.worker_run.specs.Run.{run}
use Rattle.choices.specs.Orders.{factorial}
use Rattle.choices.specs.Counting.{hits}
use Rattle.pct_top.specs.declared.settings.Settings.TheVariants.{Certify}
use Rattle.pct_top.specs.declared.status.Status.TheVariants.{Done}
use Rattle.pct_top.specs.Settings.{SettingsOrWord, settings}
use Rattle.pct_top.specs.Printed.{NamedFiles, Printed, script_bytes, directive_bytes}
use Rattle.pct_top.specs.Output.{Output}
use Rattle.pct_top.specs.commands.Certify.{bound_words}

-- the words ask for the certificate of the directive in this file over the script in that one
abbrev pub CertifiesFile : SettingsOrWord → List ℕ → List ℕ → ℕ → ℕ → Type 0
CertifiesFile (Ok (Certify file directive steps limit serve)) name other k most =
    (name ≡ file) × (other ≡ directive) × (k ≡ steps) × (most ≡ limit)
CertifiesFile taken name other k most = ⊥

-- Of the n! k^m choices of an order of a script's n threads and of m points in 1..k, so many have
-- the directive's verdict that it is at least one in n k^m, where the directive has m moments.
abbrev pub IsOneIn : ScriptText → Deal → DirectiveText → ℕ → ℕ → Type 0
IsOneIn script deal directive k limit =
    let n = length script.names.threads in
    let m = length directive.events in
    factorial n * k ^ m
    ≤ hits (λ order points. run deal (bodies_of script) order points limit) n k m directive.verdict
    * (n * k ^ m)

-- the output is some lines, of which this is the last
abbrev pub EndsInLine : List ℕ → List (List ℕ) → Type 0
EndsInLine out line =
    (lines : List (List (List ℕ))) × (out ≡ flat_map line_text (lines ++ line ∷ []))

-- the last line tells the bound n k^m, for the script's n threads and the directive's m moments
abbrev pub TellsBound : ScriptText → DirectiveText → ℕ → List ℕ → Type 0
TellsBound script directive k out =
    EndsInLine out
    (bound_words (length script.names.threads * k ^ length directive.events))

-- The files have a script, with what its threads share, and a directive under its names; this is
-- its count, and the bound that the output tells.
pub record IsCountTold (files : NamedFiles) (file directive : List ℕ) (k limit : ℕ) (out : List ℕ) :
    Type 0 where
  pub script : ScriptText
  pub deal : Deal
  pub plan : DirectiveText
  pub spelled : Spells (take script_bytes (files file)) script
  pub deals : IsDealOf script deal
  pub told : IsDirective (take directive_bytes (files directive)) script.names plan
  pub counted : IsOneIn script deal plan k limit
  pub bound : TellsBound script plan k out

-- For all words and files: where `certify` may be done, its directive is so counted, and the bound
-- that is printed is that of the count.
abbrev pub CertifiedAreCounted : Type 0
CertifiedAreCounted =
    (words : List (List ℕ)) (files : NamedFiles) (printed : Printed) (file directive : List ℕ)
    (k limit : ℕ)
    → CertifiesFile (settings words) file directive k limit → Output words files printed
    → printed.status ≡ Done → IsCountTold files file directive k limit printed.out

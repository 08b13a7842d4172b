-- The options of the program itself, apart from those of its commands (this project).
use Rattle.std.specs.Prelude.{◌≡◌, ℕ, if◌then◌else◌, List, [], ◌∷◌, map, Option, Some, None, codes}
use Rattle.std.specs.List.{find}
use Rattle.std.specs.Option.{option_map}
use Rattle.std.specs.Str.{bytes_eq}
use Rattle.pct_outside.specs.Counter.{Rose}
use Rattle.pct_outside.specs.Puts.{IsPutWhole, IsPutInPart}
use Rattle.pct_top.specs.declared.refusal.Refusal.TheVariants.{Write, Memory}
use Rattle.pct_top.specs.declared.status.Status.{Status}
use Rattle.pct_top.specs.declared.status.Status.TheVariants.{Done, WriteFault, NoMemory}
use Rattle.pct_outside.specs.Told.{StreamTold}
use Rattle.pct_top.specs.Refusing.{refusal_line}
use Rattle.pct_top.specs.Saying.{SaysLine}
use Rattle.pct_main.specs.declared.explanations.TheConstants.{EXPLANATIONS}
use Rattle.pct_main.specs.declared.own.Own.{Own}
use Rattle.pct_main.specs.declared.own.Own.TheVariants.{Help, Version, Explanation, UnknownWord}
use Rattle.pct_main.specs.declared.own.TheConstants.{HELP, VERSION, UNKNOWN}

-- each word that is explained, with its text
unfoldable pub explanations : List (List ℕ × List ℕ)
explanations = map (λ e. (e.0.now, e.1.now)) EXPLANATIONS.now

-- the text beside the first place of a word, where it has one
abbrev pub text_among : List (List ℕ × List ℕ) → List ℕ → Option (List ℕ)
text_among entries word = option_map (λ e. e.1) (find (λ e. bytes_eq e.0 word) entries)

-- the text of a word's explanation, where it has one
abbrev pub explanation_of : List ℕ → Option (List ℕ)
explanation_of word = text_among explanations word

-- the text that an option is answered by
abbrev pub option_text : Own → List ℕ
option_text Help = HELP.now
option_text Version = VERSION.now
option_text (Explanation text) = text.now
option_text UnknownWord = UNKNOWN.now

-- the text of a word's explanation, or that which names the words
abbrev pub explained : Option (List ℕ) → List ℕ
explained (Some text) = text
explained None = UNKNOWN.now

-- the text that the program answers words by, where it answers them by itself
abbrev pub answer_to : List (List ℕ) → Option (List ℕ)
answer_to [] = None
answer_to (word ∷ []) =
    if bytes_eq word (codes "--help") then Some HELP.now
    else (if bytes_eq word (codes "--version") then Some VERSION.now else None)
answer_to (option ∷ word ∷ []) =
    if bytes_eq option (codes "--explain") then Some (explained (explanation_of word)) else None
answer_to (word ∷ other ∷ another ∷ words) = None

-- The text was put on the output whole, and nothing was said. Where the output refused it, or there
-- was no memory, a part of it may be there, and that is said on the error stream.
abbrev pub IsPut : List ℕ → StreamTold → StreamTold → StreamTold → StreamTold → Status → Type 0
IsPut text out out' err err' Done = IsPutWhole text out out' × (err' ≡ err)
IsPut text out out' err err' WriteFault =
    Rose out.faults out'.faults × IsPutInPart text out out'
    × SaysLine (refusal_line Write) err err'
IsPut text out out' err err' NoMemory =
    Rose out.shorts out'.shorts × IsPutInPart text out out'
    × SaysLine (refusal_line Memory) err err'
IsPut text out out' err err' status = ⊥

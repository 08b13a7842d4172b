use Rattle.std.proofs.Common.{◌≡◌, ℕ, List, Result, Ok, Err, MatchResult, sym, ◌∙◌}
use Rattle.std.specs.Result.{is_ok}
use Rattle.std.specs.Str.{IsUtf8, is_utf8}
use Rattle.std.proofs.lemmas.Bool.{false_from_ne_true}
use Rattle.std.proofs.lemmas.Str.{is_utf8-from_IsUtf8, IsUtf8-from_is_utf8}
use Rattle.script_parse.proofs.ahead.is_text.Goals as goal

-- what a test of UTF-8 by a conversion says
is_ok-text : {A E : Type 0} (P : A → Type 0) (Q : E → Type 0) (bytes : List ℕ) (r : Result A E)
    → MatchResult r (λ s. P s × IsUtf8 bytes) (λ e. ¬ (IsUtf8 bytes) × Q e)
    → is_ok r ≡ is_utf8 bytes
is_ok-text P Q bytes (Ok s) h = sym (is_utf8-from_IsUtf8 bytes h.1)
is_ok-text P Q bytes (Err e) h =
    sym (false_from_ne_true (is_utf8 bytes) (λ t. h.0 (IsUtf8-from_is_utf8 bytes t)))

pub returns : goal.returns
returns c =
    c.is_ok.ensures.value ∙ is_ok-text _ _ c.args.bytes.now c.from_utf8.result
    c.from_utf8.ensures.cases

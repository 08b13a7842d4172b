-- The lines of a printed text: their numbers, and that each is sound.
use Rattle.std.proofs.Common.{◌≡◌, ℕ, zero, suc, ◌+◌, ◌<◌, ◌≤◌, true, List, [], ◌∷◌, ◌++◌, length}
use Rattle.std.proofs.Common.{map, Some, inr, refl, ap, ◌∙◌, All, arith}
use Rattle.std.specs.List.{list_all}
use Rattle.std.specs.Fmt.{digits}
use Rattle.std.specs.Str.{IsAscii}
use Rattle.std.proofs.lemmas.Bool.{and_parts}
use Rattle.std.proofs.lemmas.Bool.Decides.{nat_tests}
use Rattle.std.proofs.lemmas.List.Elements.{All-nil, All-cons, All-head, All-tail}
use Rattle.std.proofs.lemmas.Str.{is_utf8-from_IsUtf8, IsUtf8-from_ascii}
use Rattle.std.proofs.lemmas.Str.Ascii.{IsAscii-nil, IsAscii-cons}
use Rattle.script_tree.specs.Forms.{MeantForm}
use Rattle.script_tree.specs.Lines.{tokens_in, version_in}
use Rattle.script_tree.specs.Grammar.{Line, AreLines, IsLineText}
use Rattle.script_tree.specs.Layout.{form_text, header_text}
use Rattle.script_tree.proofs.laws.PlainLines.{is_plain, ArePlain}
use Rattle.script_tree.proofs.FormCuts.{Fits, form_cut, form_says}

-- lines that mean these, one after another, of which the first has this number
abbrev pub numbered : ℕ → List MeantForm → List Line
numbered n [] = []
numbered n (m ∷ ms) = (n, m) ∷ numbered (n + 1) ms

pub numbered-append : (n : ℕ) (a b : List MeantForm)
    → numbered n (a ++ b) ≡ numbered n a ++ numbered (n + length a) b
numbered-append n [] b = ap (λ k. numbered k b) (omega arith)
numbered-append n (m ∷ a) b =
    ap (λ lines. (n, m) ∷ lines) (numbered-append (n + 1) a b
    ∙ ap (λ k. numbered (n + 1) a ++ numbered k b) (omega arith))

-- each line fits the version
abbrev pub AreFit : ℕ → List MeantForm → Type 0
AreFit version [] = Unit {0}
AreFit version (m ∷ ms) = Fits version m × AreFit version ms

pub AreFit-append : (version : ℕ) (a b : List MeantForm) → AreFit version a → AreFit version b
    → AreFit version (a ++ b)
AreFit-append version [] b in_a in_b = in_b
AreFit-append version (m ∷ a) b in_a in_b = (in_a.0, AreFit-append version a b in_a.1 in_b)

pub are_lines : (version n : ℕ) (ms : List MeantForm) → AreFit version ms
    → AreLines version n (map form_text ms) (numbered n ms)
are_lines version n [] fit = refl
are_lines version n (m ∷ ms) fit =
    inr (
      m,
      numbered (n + 1) ms,
      refl,
      form_says version m fit.0,
      are_lines version (n + 1) ms fit.1,
    )

-- ---- bytes

pub forms_are_plain : (version : ℕ) (ms : List MeantForm) → AreFit version ms
    → ArePlain (map form_text ms)
forms_are_plain version [] fit = tt
forms_are_plain version (m ∷ ms) fit =
    ((form_cut version m fit.0).plain, forms_are_plain version ms fit.1)

plain_is_ascii : (b : ℕ) → is_plain b ≡ true → b < 128
plain_is_ascii b h = grind (arith, nat_tests)

ascii : (line : List ℕ) → list_all is_plain line ≡ true → IsAscii line
ascii [] h = IsAscii-nil
ascii (b ∷ line) h = let both = and_parts (is_plain b) (list_all is_plain line) h in
    IsAscii-cons b line (plain_is_ascii b both.0) (ascii line both.1)

abbrev pub IsShortLine : List ℕ → Type 0
IsShortLine line = length line ≤ 256

pub all_sound : (lines : List (List ℕ)) → ArePlain lines → All IsShortLine lines
    → All IsLineText lines
all_sound [] plain short = All-nil IsLineText
all_sound (line ∷ lines) plain short =
    All-cons IsLineText line lines (record {
      text = is_utf8-from_IsUtf8 line (IsUtf8-from_ascii line (ascii line plain.0));
      short = All-head IsShortLine line lines short;
    })
    (all_sound lines plain.1 (All-tail IsShortLine line lines short))

-- ---- the header

pub record IsHeader (version : ℕ) : Type 0 where
  pub tells : version_in (tokens_in (header_text version)) ≡ Some version
  pub plain : list_all is_plain (header_text version) ≡ true

first_header : IsHeader 1
unfolding digits
first_header = record { tells = refl; plain = refl }

second_header : IsHeader 2
unfolding digits
second_header = record { tells = refl; plain = refl }

third_header : IsHeader 3
unfolding digits
third_header = record { tells = refl; plain = refl }

pub is_header : (version : ℕ) → 1 ≤ version → version ≤ 3 → IsHeader version
is_header zero low high = absurd (omega arith)
is_header (suc zero) low high = first_header
is_header (suc (suc zero)) low high = second_header
is_header (suc (suc (suc zero))) low high = third_header
is_header (suc (suc (suc (suc n)))) low high = absurd (omega arith)

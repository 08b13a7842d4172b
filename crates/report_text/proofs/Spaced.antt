-- The line of a group of a sweep, made of words with a space behind each.
use Rattle.std.specs.Prelude.{codes, decimal}
use Rattle.std.specs.List.{join_with_byte, flat_map}
use Rattle.std.proofs.Common.{◌≡◌, ℕ, List, [], ◌∷◌, ◌++◌, refl, sym, ap, ◌∙◌, append_assoc}
use Rattle.std.proofs.Common.{append-nil}
use Rattle.pct_ask.specs.TraceText.{line_text}
use Rattle.pct_ask.specs.VerdictText.{NamedVerdict, verdict_words, named_text, place_words}
use Rattle.pct_ask.specs.VerdictText.{misuse_word, fault_word}
use Rattle.pct_ask.specs.VerdictText.NamedVerdict.{NamedPassed, NamedFailed, NamedStuck}
use Rattle.pct_ask.specs.VerdictText.NamedVerdict.{NamedMisuse, NamedFault, NamedCut}
use Rattle.report_text.specs.SweepText.{spaced}

line-cons : (w v : List ℕ) (ws : List (List ℕ))
    → line_text (w ∷ v ∷ ws) ≡ (w ++ 32 ∷ []) ++ line_text (v ∷ ws)
line-cons w v ws =
    append_assoc w (32 ∷ join_with_byte 32 (v ∷ ws)) (10 ∷ [])
    ∙ sym (append_assoc w (32 ∷ []) (line_text (v ∷ ws)))

line-spaced : (words : List (List ℕ)) (word : List ℕ) (more : List (List ℕ))
    → line_text (words ++ word ∷ more) ≡ spaced words ++ line_text (word ∷ more)
line-spaced [] word more = refl
line-spaced (w ∷ []) word more =
    line-cons w word more
    ∙ ap (λ (s : List ℕ). s ++ line_text (word ∷ more)) (sym (append-nil (w ++ 32 ∷ [])))
line-spaced (w ∷ u ∷ us) word more =
    line-cons w u (us ++ word ∷ more)
    ∙ ap (λ (s : List ℕ). (w ++ 32 ∷ []) ++ s) (line-spaced (u ∷ us) word more)
    ∙ sym (append_assoc (w ++ 32 ∷ []) (spaced (u ∷ us)) (line_text (word ∷ more)))

spaced-append : (words more : List (List ℕ))
    → spaced (words ++ more) ≡ spaced words ++ spaced more
spaced-append [] more = refl
spaced-append (w ∷ words) more =
    ap (λ (s : List ℕ). (w ++ 32 ∷ []) ++ s) (spaced-append words more)
    ∙ sym (append_assoc (w ++ 32 ∷ []) (spaced words) (spaced more))

-- a word before a verdict
verdict-line : (word : List ℕ) (verdict : NamedVerdict)
    → line_text (word ∷ verdict_words verdict)
    ≡ (word ++ 32 ∷ []) ++ (named_text verdict ++ 10 ∷ [])
verdict-line word NamedPassed = line-cons word (codes "passed") []
verdict-line word (NamedFailed name line) =
    line-cons word (codes "failed") (name ∷ decimal line ∷ [])
verdict-line word (NamedStuck places) =
    line-cons word (codes "stuck") (flat_map place_words places)
verdict-line word (NamedMisuse name line kind) =
    line-cons word (codes "misuse") (name ∷ decimal line ∷ misuse_word kind ∷ [])
verdict-line word (NamedFault name line kind) =
    line-cons word (codes "fault") (name ∷ decimal line ∷ fault_word kind ∷ [])
verdict-line word NamedCut = line-cons word (codes "cut") []

module _ (old count steps order_word point_word verdict_word : List ℕ)
    (names points : List (List ℕ)) (verdict : NamedVerdict) where
  abbrev first : List (List ℕ)
  first = count ∷ steps ∷ order_word ∷ names

  abbrev second : List (List ℕ)
  second = point_word ∷ points

  pub group-line :
      ((((((((old ++ (count ++ 32 ∷ [])) ++ (steps ++ 32 ∷ [])) ++ (order_word ++ 32 ∷ []))
      ++ spaced names) ++ (point_word ++ 32 ∷ [])) ++ spaced points) ++ (verdict_word ++ 32 ∷ []))
      ++ (named_text verdict ++ 10 ∷ []))
      ≡ old ++ line_text (first ++ second ++ verdict_word ∷ verdict_words verdict)
  group-line =
      let tail : List ℕ = (verdict_word ++ 32 ∷ []) ++ (named_text verdict ++ 10 ∷ []) in
      let made : line_text (first ++ second ++ verdict_word ∷ verdict_words verdict)
      ≡ (spaced first ++ spaced second) ++ tail =
      line-spaced (first ++ second) verdict_word (verdict_words verdict)
      ∙ ap (λ (s : List ℕ). s ++ line_text (verdict_word ∷ verdict_words verdict))
      (spaced-append first second)
      ∙ ap (λ (s : List ℕ). (spaced first ++ spaced second) ++ s)
      (verdict-line verdict_word verdict) in
      rw made (simp append_assoc)

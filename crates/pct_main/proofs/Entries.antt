-- To look a word up among references to texts is to look it up among the texts.
use Rattle.std.specs.Prelude.{◌≡◌, ℕ, true, false, List, [], ◌∷◌, map, Option, Some, refl}
use Rattle.std.specs.Borrow.{Bor}
use Rattle.std.specs.List.{find}
use Rattle.std.specs.Option.{option_map}
use Rattle.std.specs.Str.{bytes_eq}
use Rattle.std.proofs.Common.{cond, sym, ap, ◌∙◌}
use Rattle.pct_main.specs.Own.{text_among}

abbrev pub Entry : Type 0
Entry = Bor (List ℕ) × Bor (List ℕ)

abbrev pub texts : List Entry → List (List ℕ × List ℕ)
texts entries = map (λ e. (e.0.now, e.1.now)) entries

abbrev of_entry : Option Entry → Option (List ℕ)
of_entry entry = option_map (λ (e : Entry). e.1.now) entry

module _ (word : List ℕ) where
  text-found : (entries : List Entry)
      → of_entry (find (λ e. bytes_eq e.0.now word) entries) ≡ text_among (texts entries) word
  text-found [] = refl
  text-found (entry ∷ entries) =
      elim (bytes_eq entry.0.now word) as (λ same.
      of_entry (cond same (Some entry) (find (λ e. bytes_eq e.0.now word) entries))
      ≡ option_map (λ (e : List ℕ × List ℕ). e.1) (cond same (Some (entry.0.now, entry.1.now))
      (find (λ e. bytes_eq e.0 word) (texts entries))))
      [ true ↦ refl | false ↦ text-found entries ]

  -- the text of what was found, where it is known
  pub text-of : (entries : List Entry) (found known : Option (Bor Entry)) → found ≡ known
      → option_map (λ e. e.now) found ≡ find (λ e. bytes_eq e.0.now word) entries
      → of_entry (option_map (λ e. e.now) known) ≡ text_among (texts entries) word
  text-of entries found known is ran =
      ap (λ r. of_entry (option_map (λ e. e.now) r)) (sym is)
      ∙ (ap of_entry ran ∙ text-found entries)

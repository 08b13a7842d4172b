-- The table of the asks of traces: each word is its verb's alone, and a version of traces has a
-- verb from its first version on.
use Rattle.std.specs.Prelude.{◌==◌, ◌||◌, if◌then◌else◌}
use Rattle.std.specs.Str.{bytes_eq}
use Rattle.std.proofs.Common.{◌≡◌, ◌⊎◌, ℕ, ◌+◌, ◌<◌, ◌≤◌, Bool, true, false, List, [], ◌∷◌, length}
use Rattle.std.proofs.Common.{drop, get_or}
use Rattle.std.proofs.Common.{Option, Some, None, refl, sym, ap, ◌∙◌, inl, inr, arith}
use Rattle.std.proofs.lemmas.Bool.Decides.{nat_tests}
use Rattle.std.proofs.lemmas.List.{drop_more, drop_all}
use Rattle.std.proofs.lemmas.Option.{same_Some}
use Rattle.pct_ask.specs.TraceVerbs.{verb_word, verb_since, verbs as all_verbs}
use Rattle.pct_ask.specs.TraceVerbs.{verb_among, verb_known, verb_in}
use Rattle.pct_ask.specs.declared.trace_verbs.Verb.{Verb}
use Rattle.pct_ask.specs.declared.trace_verbs.Verb.TheVariants as verbs
use Rattle.pct_ask.proofs.laws.SameWords.{same-word}

-- ---- words

-- a verb among the others from a place on: there, or behind it
pub among_here : (list : List Verb) (i : ℕ) (d : Verb) (word : List ℕ) → i < length list
    → bytes_eq word (verb_word (get_or list i d)) ≡ true
    → verb_among (drop i list) word ≡ Some (get_or list i d)
among_here list i d word h e = ap (λ vs. verb_among vs word) (drop_more list i d h) ∙ rw e

pub among_later : (list : List Verb) (i : ℕ) (d : Verb) (word : List ℕ) → i < length list
    → bytes_eq word (verb_word (get_or list i d)) ≡ false
    → verb_among (drop i list) word ≡ verb_among (drop (i + 1) list) word
among_later list i d word h e = ap (λ vs. verb_among vs word) (drop_more list i d h) ∙ rw e

pub among_end : (list : List Verb) (i : ℕ) (word : List ℕ) → length list ≤ i
    → verb_among (drop i list) word ≡ None
among_end list i word h = rw (drop_all i list h)

pub ruleset among_laws = (among_here, among_later, among_end)

among-by : (word : List ℕ) (other verb : Verb) (others : Option Verb) (b : Bool)
    → bytes_eq word (verb_word other) ≡ b → (if b then Some other else others) ≡ Some verb
    → (others ≡ Some verb → word ≡ verb_word verb) → word ≡ verb_word verb
among-by word other verb others true e h later =
    same-word word (verb_word other) e ∙ ap verb_word (same_Some other verb h)
among-by word other verb others false e h later = later h

among-word : (list : List Verb) (word : List ℕ) (verb : Verb) → verb_among list word ≡ Some verb
    → word ≡ verb_word verb
among-word [] word verb h = absurd cc
among-word (other ∷ others) word verb h =
    among-by word other verb (verb_among others word) (bytes_eq word (verb_word other)) refl h
    (λ later. among-word others word verb later)

known-same : (version : ℕ) (b : Bool) (other verb : Verb)
    → (if b then Some other else None) ≡ Some verb → other ≡ verb
known-same version true other verb h = same_Some other verb h
known-same version false other verb h = absurd cc

-- a version of traces has the verb
abbrev pub IsKnown : ℕ → Verb → Type 0
IsKnown version verb = verb_known version (Some verb) ≡ Some verb

-- a word that is read as a verb is that verb's, and the version has it
pub verb-told : (version : ℕ) (word : List ℕ) (verb : Verb) → verb_in version word ≡ Some verb
    → (word ≡ verb_word verb) × IsKnown version verb
unfolding verb_in
verb-told version word verb h = by (verb_among all_verbs word) refl h
  where
    by : (found : Option Verb) → verb_among all_verbs word ≡ found
        → verb_known version found ≡ Some verb → (word ≡ verb_word verb) × IsKnown version verb
    by None e k = absurd cc
    by (Some other) e k =
        let same = known-same version (verb_since other == 1 || version == 2) other verb k in (
          among-word all_verbs word other e ∙ ap verb_word same,
          ap (λ v. verb_known version (Some v)) (sym same) ∙ k,
        )

own-word : (verb : Verb) → verb_among all_verbs (verb_word verb) ≡ Some verb
own-word verbs.Read = refl
own-word verb = refl

-- and each verb that the version has is read by its word
pub verb-found : (version : ℕ) (verb : Verb) → IsKnown version verb
    → verb_in version (verb_word verb) ≡ Some verb
unfolding verb_in
verb-found version verb known = ap (verb_known version) (own-word verb) ∙ known

-- ---- versions

second : (version : ℕ) (verb : Verb) (b : Bool) → (version == 2) ≡ b
    → (if b then Some verb else None) ≡ Some verb → version ≡ 2
second version verb true e h = grind (arith, nat_tests)
second version verb false e h = absurd cc

-- a verb of the second version is known in that one alone
pub known-second : (version : ℕ) (verb : Verb) → verb_since verb ≡ 2 → IsKnown version verb
    → version ≡ 2
known-second version verb since known =
    second version verb (version == 2) refl
    (ap (λ (s : ℕ). if◌then◌else◌ {A = Option Verb} (s == 1 || version == 2) (Some verb) None)
    (sym since) ∙ known)

-- the second version has all verbs
pub in-second : (version : ℕ) (verb : Verb) → version ≡ 2 → IsKnown version verb
in-second version verbs.Read two = refl
in-second version verbs.RdLock two = ap (λ v. verb_known v (Some verbs.RdLock)) two
in-second version verbs.WrLock two = ap (λ v. verb_known v (Some verbs.WrLock)) two
in-second version verbs.TryRdLock two = ap (λ v. verb_known v (Some verbs.TryRdLock)) two
in-second version verbs.TryWrLock two = ap (λ v. verb_known v (Some verbs.TryWrLock)) two
in-second version verbs.RwUnlock two = ap (λ v. verb_known v (Some verbs.RwUnlock)) two
in-second version verb two = refl

-- a verb is known from its first version on
pub known-since : (version : ℕ) (verb : Verb) → 1 ≤ version → IsKnown version verb
    → verb_since verb ≤ version
known-since version verbs.Read some known = some
known-since version verbs.RdLock some known =
    let two = known-second version verbs.RdLock refl known in omega arith
known-since version verbs.WrLock some known =
    let two = known-second version verbs.WrLock refl known in omega arith
known-since version verbs.TryRdLock some known =
    let two = known-second version verbs.TryRdLock refl known in omega arith
known-since version verbs.TryWrLock some known =
    let two = known-second version verbs.TryWrLock refl known in omega arith
known-since version verbs.RwUnlock some known =
    let two = known-second version verbs.RwUnlock refl known in omega arith
known-since version verb some known = some

first-known : (verb : Verb) → verb_since verb ≤ 1 → IsKnown 1 verb
first-known verbs.Read h = refl
first-known verbs.RdLock h = absurd (omega arith)
first-known verbs.WrLock h = absurd (omega arith)
first-known verbs.TryRdLock h = absurd (omega arith)
first-known verbs.TryWrLock h = absurd (omega arith)
first-known verbs.RwUnlock h = absurd (omega arith)
first-known verb h = refl

-- and from there on it is
pub since-known : (version : ℕ) (verb : Verb) → (version ≡ 1) ⊎ (version ≡ 2)
    → verb_since verb ≤ version → IsKnown version verb
since-known version verb (inl one) h =
    let at : verb_since verb ≤ 1 = omega arith in
    ap (λ v. verb_known v (Some verb)) one ∙ first-known verb at
since-known version verb (inr two) h = in-second version verb two

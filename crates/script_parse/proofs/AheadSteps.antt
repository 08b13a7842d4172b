-- What is known of a text, with one line more.
use Rattle.std.proofs.Common.{◌≡◌, ℕ, ◌+◌, ◌<◌, ◌≤◌, Bool, true, false, length, List, [], ◌∷◌, ◌++◌}
use Rattle.std.proofs.Common.{Option, Some, None, refl, sym, ap, ◌∙◌, subst, arith, length-append}
use Rattle.std.specs.Prelude.{◌&&◌, ◌==◌, if◌then◌else◌}
use Rattle.std.specs.List.{cons_option}
use Rattle.std.specs.Str.{is_utf8}
use Rattle.std.proofs.lemmas.Bool.Decides.{nat_tests}
use Rattle.std.proofs.lemmas.List.{append-nil}
use Rattle.std.proofs.lemmas.List.Elements.{filter_map-append}
use Rattle.std.proofs.lemmas.List.Folds.{list_all-append}
use Rattle.pct_ask.specs.Lines.{lines_of, onto_first}
use Rattle.pct_ask.specs.Tokens.{Token, tokens_of}
use Rattle.script_tree.specs.Lines.{is_blank_line, just_thread, thread_in, threads_begun}
use Rattle.script_tree.specs.Faults.{are_blank}
use Rattle.script_parse.specs.declared.ahead.Lookahead.{Lookahead}
use Rattle.script_parse.specs.Lookahead.{HasPlaces, HasSeen}

pub no_thread_more : (texts : List (List ℕ)) (line : List ℕ) → thread_in line ≡ None
    → threads_begun (texts ++ line ∷ []) ≡ threads_begun texts
no_thread_more texts line e =
    filter_map-append thread_in texts (line ∷ []) ∙ rw e (append-nil (threads_begun texts))

pub thread_more : (texts : List (List ℕ)) (line name : List ℕ) → thread_in line ≡ Some name
    → threads_begun (texts ++ line ∷ []) ≡ threads_begun texts ++ name ∷ []
thread_more texts line name e = filter_map-append thread_in texts (line ∷ []) ∙ rw e refl

-- a line that can't be cut into tokens begins no thread
pub no_tokens : (line : List ℕ) → tokens_of line ≡ None → thread_in line ≡ None
no_tokens line e = by (is_utf8 line) refl
  where
    by : (b : Bool) → is_utf8 line ≡ b → thread_in line ≡ None
    by true u = rw (u, e) refl
    by false u = rw u refl

pub by_tokens : (line : List ℕ) (tokens : List Token) (found : Option (List ℕ))
    → is_utf8 line ≡ true → tokens_of line ≡ Some tokens → just_thread tokens ≡ found
    → thread_in line ≡ found
by_tokens line tokens found u e t = rw (u, e) t

and_true : (b : Bool) → (b && true) ≡ b
and_true true = refl
and_true false = refl

pub blank_push : (texts : List (List ℕ)) (line : List ℕ)
    → are_blank (texts ++ line ∷ []) ≡ (are_blank texts && is_blank_line line)
blank_push texts line =
    list_all-append is_blank_line texts (line ∷ [])
    ∙ ap (λ b. are_blank texts && b) (and_true (is_blank_line line))

-- ---- what is known, with one line more

-- what is known before its places are noted
abbrev counted : Lookahead → Bool → Lookahead
counted old blank = record {
  places = old.places;
  threads = old.threads;
  lines = old.lines + 1;
  blank = blank;
}

-- a line that begins no thread
pub plain_seen : (old : Lookahead) (blank : Bool) (line : List ℕ) → thread_in line ≡ None
    → blank ≡ (old.blank && is_blank_line line) → (texts : List (List ℕ)) → HasSeen old texts
    → HasSeen (counted old blank) (texts ++ line ∷ [])
plain_seen old blank line none says texts has = record {
  has_places =
      subst (λ names. HasPlaces (counted old blank) names) (sym (no_thread_more texts line none))
      (record { places = has.has_places.places; threads = has.has_places.threads });
  lines = omega (arith, has.lines, length-append texts (line ∷ []));
  blank = says ∙ ap (λ b. b && is_blank_line line) has.blank ∙ sym (blank_push texts line);
}

-- a line that begins a thread, which is noted
pub thread_seen : (old new : Lookahead) (blank : Bool) (line name : List ℕ)
    → thread_in line ≡ Some name
    → blank ≡ (old.blank && is_blank_line line)
    → ((names : List (List ℕ)) → HasPlaces (counted old blank) names
    → HasPlaces new (names ++ name ∷ [])) → new.lines ≡ old.lines + 1 → new.blank ≡ blank
    → (texts : List (List ℕ)) → HasSeen old texts → HasSeen new (texts ++ line ∷ [])
thread_seen old new blank line name begun says noted lines same texts has = record {
  has_places =
      subst (λ names. HasPlaces new names) (sym (thread_more texts line name begun))
      (noted (threads_begun texts) (record {
        places = has.has_places.places;
        threads = has.has_places.threads;
      }));
  lines = omega (arith, lines, has.lines, length-append texts (line ∷ []));
  blank = same ∙ says ∙ ap (λ b. b && is_blank_line line) has.blank ∙ sym (blank_push texts line);
}

-- a line of no tokens is blank
pub blank_by : (line : List ℕ) (tokens : List Token) → tokens_of line ≡ Some tokens
    → is_blank_line line ≡ (length tokens == 0)
blank_by line [] e = rw e refl
blank_by line (token ∷ tokens) e = let some : 0 < length (token ∷ tokens) = omega arith in
    rw e (grind (arith, nat_tests))

-- a line that can't be cut into tokens isn't blank
pub cut_blank : (blank : Bool) (line : List ℕ) → tokens_of line ≡ None
    → false ≡ (blank && is_blank_line line)
cut_blank true line e = rw e refl
cut_blank false line e = refl

-- ---- how many lines and threads there are

onto_length : (b : ℕ) (lines : List (List ℕ)) → length (onto_first b lines) ≤ length lines + 1
onto_length b [] = omega arith
onto_length b (line ∷ lines) = omega arith

one_more : (b : ℕ) (t : Bool) (bs : List ℕ) → length (lines_of bs) ≤ length bs
    → length (if t then [] ∷ lines_of bs else onto_first b (lines_of bs)) ≤ length (b ∷ bs)
one_more b true bs few = omega (arith, few)
one_more b false bs few = omega (arith, few, onto_length b (lines_of bs))

-- a text has no more lines than bytes
pub lines_few : (bytes : List ℕ) → length (lines_of bytes) ≤ length bytes
lines_few [] = omega arith
lines_few (b ∷ bs) = one_more b (b == 10) bs (lines_few bs)

-- so many lines from the front are no more than the bytes
pub front_few : (bytes : List ℕ) (front rest : List (List ℕ)) → front ++ rest ≡ lines_of bytes
    → length front ≤ length bytes
front_few bytes front rest e =
    omega (arith, lines_few bytes, sym (ap length e) ∙ length-append front rest)

cons_few : (found : Option (List ℕ)) (names : List (List ℕ))
    → length (cons_option found names) ≤ length names + 1
cons_few None names = omega arith
cons_few (Some name) names = omega arith

-- the lines begin no more threads than there are lines
pub threads_few : (texts : List (List ℕ)) → length (threads_begun texts) ≤ length texts
threads_few [] = omega arith
threads_few (text ∷ texts) =
    omega (arith, cons_few (thread_in text) (threads_begun texts), threads_few texts)

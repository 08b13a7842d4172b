-- The lines down to the header.
use Rattle.std.proofs.Common.{◌≡◌, ℕ, ◌+◌, ◌-◌, inl, inr, Bool, true, false, cond, length, List, []}
use Rattle.std.proofs.Common.{◌∷◌, ◌++◌, reverse, Option, Some, None, Ok, Err, refl, sym, ap, ◌∙◌}
use Rattle.std.proofs.Common.{append_assoc, arith, subst}
use Rattle.std.specs.Prelude.{nat_le, not, ◌&&◌, ◌==◌, codes, count_by, is_some}
use Rattle.std.specs.Str.{bytes_eq}
use Rattle.std.proofs.lemmas.List.{append-nil}
use Rattle.std.proofs.lemmas.List.Folds.{list_all-append}
use Rattle.std.proofs.lemmas.Bool.{and_parts}
use Rattle.pct_ask.specs.Tokens.{Token, Word, Number, tokens_of}
use Rattle.pct_ask.specs.NameLists.{list_of, no_names}
use Rattle.pct_ask.specs.declared.names.NameKind.{NameKind}
use Rattle.pct_ask.specs.declared.names.NameKind.TheVariants as kinds
use Rattle.script_tree.specs.declared.fault.ScriptFault.TheVariants as fault
use Rattle.script_tree.specs.Forms.{TokenForm, MeantForm}
use Rattle.script_tree.specs.Lines.{tokens_in, is_blank_line, version_in, version_of, begins_with}
use Rattle.script_tree.specs.Lines.{names_of, opens, depth, opener}
use Rattle.script_tree.specs.Faults as faults
use Rattle.script_tree.specs.Faults.{Place, tokens_before, are_blank, IsBelowHeader, HasForm}
use Rattle.script_parse.specs.Part.{ReadPart}
use Rattle.script_parse.specs.Reading.{Finder, is_empty, unless, header_taken, first_part}
use Rattle.script_parse.specs.Reading.{line_taken, some_part}
use Rattle.script_parse.proofs.Choices.{some, passed, same_bytes, clash}
use Rattle.script_parse.proofs.FirstKinds.{Tells, first_in, in_order, IsFirst}
use Rattle.script_parse.proofs.Standing.{Lines, Stands, count_push, names_push, reverse_push}
use Rattle.script_parse.proofs.LineFaults.{tells_end_any, tells_thread_any}
use Rattle.script_parse.proofs.LineSteps.{AfterLine, fault_of, tests, never, always, bytes_at}
use Rattle.script_parse.proofs.LineSteps.{bad_chain}
use Rattle.script_parse.proofs.LineSteps.{some_none, cut_tokens, says_something, first_formless}

-- lines that say nothing
pub record AreQuiet (lines : Lines) : Type 0 where
  pub version : (more : Lines) → version_of (lines ++ more) ≡ version_of more
  pub names : (kind : NameKind) → names_of kind lines ≡ []
  pub opens_none : count_by opens lines ≡ 0
  pub ends_none : count_by (begins_with (codes "end")) lines ≡ 0
  pub innermost : (k : ℕ) → begins_with (codes "if") (opener k (reverse lines)) ≡ false

pub quiet_none : AreQuiet []
quiet_none = record {
  version = λ more. refl;
  names = λ kind. refl;
  opens_none = refl;
  ends_none = refl;
  innermost = λ k. refl;
}

pub quiet_blank : (lines : Lines) → AreQuiet lines → AreQuiet (lines ++ [] ∷ [])
quiet_blank lines q = record {
  version = λ more. ap version_of (append_assoc lines ([] ∷ []) more) ∙ q.version ([] ∷ more);
  names = λ kind. names_push kind lines [] ∙ append-nil (names_of kind lines) ∙ q.names kind;
  opens_none = rw (count_push opens lines []) (omega (arith, q.opens_none));
  ends_none = rw (count_push (begins_with (codes "end")) lines []) (omega (arith, q.ends_none));
  innermost = λ k. rw (reverse_push lines []) (q.innermost k);
}

-- the tokens of a header
pub header_is : (tokens : List Token) (version : ℕ) → version_in tokens ≡ Some version
    → (digit : ℕ) × (tokens ≡ Word (codes "script") ∷ Number (digit ∷ []) ∷ [])
header_is (Word word ∷ Number (digit ∷ []) ∷ []) version e =
    let p = passed (bytes_eq word (codes "script") && nat_le 49 digit && nat_le digit 51)
    (some (digit - 48)) version e in
    let a = and_parts (bytes_eq word (codes "script") && nat_le 49 digit) (nat_le digit 51) p.0 in
    let b = and_parts (bytes_eq word (codes "script")) (nat_le 49 digit) a.0 in (
      digit,
      ap (λ (w : List ℕ). Word w ∷ Number (digit ∷ []) ∷ [])
          (same_bytes word (codes "script") b.0),
    )
header_is tokens version e = absurd cc

version_first : (tokens : List Token) (version : ℕ) (more : Lines)
    → version_in tokens ≡ Some version → version_of (tokens ∷ more) ≡ version
version_first [] version more e = absurd cc
version_first (token ∷ tokens) version more e = rw e refl

header_stands : (lines : Lines) (digit version : ℕ)
    → version_in (Word (codes "script") ∷ Number (digit ∷ []) ∷ []) ≡ Some version → AreQuiet lines
    → Stands (first_part version) (lines ++ (Word (codes "script") ∷ Number (digit ∷ []) ∷ []) ∷ [])
header_stands lines digit version e q =
    let tokens : List Token = Word (codes "script") ∷ Number (digit ∷ []) ∷ [] in
    record {
      version =
          λ more. ap version_of (append_assoc lines (tokens ∷ []) more) ∙ q.version (tokens ∷ more)
          ∙ version_first tokens version more e;
      names =
          λ kind. names_push kind lines tokens ∙ append-nil (names_of kind lines) ∙ q.names kind
          ∙ no_list kind;
      depths =
          rw (count_push opens lines tokens, count_push (begins_with (codes "end")) lines tokens)
          (omega (arith, q.opens_none, q.ends_none));
      innermost = λ k. rw (reverse_push lines tokens) (q.innermost k);
    }
  where
    no_list : (kind : NameKind) → [] ≡ list_of kind no_names
    no_list kinds.Thread = refl
    no_list kind = refl

-- where a header was read
pub begun_stands : (lines : Lines) (tokens : List Token) (version : ℕ)
    → version_in tokens ≡ Some version → AreQuiet lines
    → Stands (first_part version) (lines ++ tokens ∷ [])
begun_stands lines tokens version e q =
    let h = header_is tokens version e in
    subst (λ (ts : List Token). Stands (first_part version) (lines ++ ts ∷ [])) (sym h.1)
    (header_stands lines h.0 version (ap version_in (sym h.1) ∙ e) q)

quiet_chain : (u l t : Bool) (next : Option ReadPart)
    → fault_of (unless (cond u (Some fault.NotUtf8)
    (cond l (Some fault.LineTooLong) (cond t (Some fault.TooManyLines) None))) (Ok next))
    ≡ first_in (tests u l t false false false false false false false false false false) in_order
quiet_chain true l t next = refl
quiet_chain false true t next = refl
quiet_chain false false true next = refl
quiet_chain false false false next = refl

good_chain : (u l t last : Bool) (next : ReadPart)
    → fault_of (unless (cond u (Some fault.NotUtf8)
    (cond l (Some fault.LineTooLong) (cond t (Some fault.TooManyLines) None)))
    (some_part (cond last (Err fault.NoThread) (Ok next))))
    ≡ first_in (tests u l t false false false false false false (last && false) false (last && true)
    false) in_order
good_chain true l t last next = refl
good_chain false true t last next = refl
good_chain false false true last next = refl
good_chain false false false true next = refl
good_chain false false false false next = refl

pub tells_token : (o : Option (List Token)) → Tells (not (is_some o)) (o ≡ None)
tells_token None = always refl
tells_token (Some tokens) = never (λ n. some_none (sym n))

-- ---- a line above the header, or the header

module _ (find : Finder) (place : Place) (q : AreQuiet (tokens_before place))
    (above : are_blank place.before ≡ true)
    (some_says : are_blank (place.before ++ place.line ∷ place.after) ≡ false) where
  abbrev pub top_step : AfterLine
  top_step = line_taken None find (length place.before + 1) (is_empty place.after) place.line

  no_form : (cut : TokenForm) (meant : MeantForm) → ¬ HasForm place cut meant
  no_form cut meant h = clash (sym above ∙ h.is_below.below)

  not_below : ¬ IsBelowHeader place
  not_below h = clash (sym above ∙ h.below)

  blanks_behind : is_blank_line place.line ≡ true → are_blank place.after ≡ true → ⊥
  blanks_behind b a =
      clash (sym (list_all-append is_blank_line place.before (place.line ∷ place.after)
      ∙ rw (above, b, a) refl) ∙ some_says)

  not_last : is_blank_line place.line ≡ true → place.after ≡ [] → ⊥
  not_last b e = blanks_behind b (ap are_blank e)

  blank_header : is_blank_line place.line ≡ true → ¬ faults.BadHeader place
  blank_header b (inl h) = clash (sym b ∙ h.1)
  blank_header b (inr h) =
      blanks_behind b (and_parts (is_blank_line place.line) (are_blank place.after) h.1).1

  top_blank : tokens_of place.line ≡ Some [] → IsFirst (fault_of top_step) place
  top_blank e =
      let is_blank : is_blank_line place.line ≡ true = rw e refl in
      first_formless place false false false false false no_form (never (blank_header is_blank))
      (never (λ n. some_none (sym n ∙ e))) (never (λ h. not_below h.0))
      (never (λ h. not_last is_blank h.0)) (never (λ h. not_last is_blank h.0)) (fault_of top_step)
      (rw (bytes_at place, e) (quiet_chain _ _ _ None))

  top_bad : is_blank_line place.line ≡ false → version_in (tokens_in place.line) ≡ None
      → header_taken (is_empty place.after) (tokens_of place.line) ≡ Err fault.BadHeader
      → IsFirst (fault_of top_step) place
  top_bad b v r =
      first_formless place true _ false _ _ no_form (always (inl (above, b, v)))
      (tells_token (tokens_of place.line)) (never (λ h. not_below h.0))
      (tells_end_any place) (tells_thread_any place) (fault_of top_step)
      (rw (bytes_at place, r) (bad_chain _ _ _ fault.BadHeader _ refl))

  good_header : (version : ℕ) → is_blank_line place.line ≡ false
      → version_in (tokens_in place.line) ≡ Some version → ¬ faults.BadHeader place
  good_header version b v (inl h) = some_none (sym h.2 ∙ v)
  good_header version b v (inr h) =
      clash (sym (and_parts (is_blank_line place.line) (are_blank place.after) h.1).0 ∙ b)

  top_good : (token : Token) (tokens : List Token) (version : ℕ)
      → tokens_of place.line ≡ Some (token ∷ tokens) → version_in (token ∷ tokens) ≡ Some version
      → IsFirst (fault_of top_step) place
  top_good token tokens version e v =
      let here : tokens_in place.line ≡ token ∷ tokens = cut_tokens place.line (token ∷ tokens) e in
      let b : is_blank_line place.line ≡ false = says_something place.line token tokens e in
      let w : version_in (tokens_in place.line) ≡ Some version = ap version_in here ∙ v in
      let header = header_is (tokens_in place.line) version w in
      let deep : depth (tokens_before place) ≡ 0 = omega (arith, q.opens_none) in
      let no_open : faults.leaves_open (faults.so_far_at place) (tokens_in place.line) ≡ false =
      ap (faults.leaves_open (faults.so_far_at place)) header.1
      ∙ ap (λ (n : ℕ). not (n == 0)) deep in
      let no_name : faults.lacks_thread (faults.so_far_at place) (tokens_in place.line) ≡ true =
      ap (faults.lacks_thread (faults.so_far_at place)) header.1
      ∙ ap (λ (names : List (List ℕ)). is_empty names) (q.names kinds.Thread) in
      first_formless place false false false (is_empty place.after && false)
      (is_empty place.after && true) no_form (never (good_header version b w))
      (never (λ n. some_none (sym n ∙ e))) (never (λ h. not_below h.0))
      (subst (λ (x : Bool). Tells (is_empty place.after && x) (faults.NoEnd place)) no_open
      (tells_end_any place)) (subst (λ (x : Bool).
      Tells (is_empty place.after && x) (faults.NoThread place)) no_name
      (tells_thread_any place)) (fault_of top_step)
      (rw (bytes_at place, e, v) (good_chain _ _ _ (is_empty place.after) (first_part version)))

  -- whatever the line is
  pub above_step : IsFirst (fault_of top_step) place
  above_step = by_tokens (tokens_of place.line) refl
    where
      by_version : (token : Token) (tokens : List Token) (found : Option ℕ)
          → tokens_of place.line ≡ Some (token ∷ tokens) → version_in (token ∷ tokens) ≡ found
          → IsFirst (fault_of top_step) place
      by_version token tokens None e v =
          top_bad (says_something place.line token tokens e)
          (ap version_in (cut_tokens place.line (token ∷ tokens) e) ∙ v) (rw (e, v) refl)
      by_version token tokens (Some version) e v = top_good token tokens version e v

      by_tokens : (found : Option (List Token)) → tokens_of place.line ≡ found
          → IsFirst (fault_of top_step) place
      by_tokens None e = top_bad (rw e refl) (rw e refl) (rw e refl)
      by_tokens (Some []) e = top_blank e
      by_tokens (Some (token ∷ tokens)) e =
          by_version token tokens (version_in (token ∷ tokens)) e refl

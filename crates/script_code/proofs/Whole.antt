-- The code that is laid out for a script is the script's.
use Rattle.std.proofs.Common.{◌≡◌, ℕ, zero, suc, ◌+◌, ◌^◌, ◌<◌, ◌≤◌, ◌&&◌, ℤ, pos, Bool, true}
use Rattle.std.proofs.Common.{false, List, [], ◌∷◌, ◌++◌, length, replicate, Some, refl, sym, ap}
use Rattle.std.proofs.Common.{◌∙◌, subst, arith, append-nil}
use Rattle.std.specs.Prelude.{nat_lt, nat_le, slice_get, slice_index_or}
use Rattle.std.specs.List.{list_all}
use Rattle.std.proofs.lemmas.Bool.{and_from}
use Rattle.std.proofs.lemmas.Bool.Decides.{nat_tests}
use Rattle.pct_ask.specs.NameLists.{NameLists}
use Rattle.script_tree.specs.Trees.{Statements, Closed, Then, statement_list, end_line}
use Rattle.script_tree.specs.ScriptText.{Thread, ScriptText}
use Rattle.script_tree.specs.Fitting.{counts_of, line_fits, statements_fit, thread_fits, IsScript}
use Rattle.script_tree.specs.Machine.{pending_from}
use Rattle.script_tree.specs.Moves.{at_start}
use Rattle.script_tree.specs.Posts.{held_pending, body_pending, is_held, thread_of, no_thread}
use Rattle.script_tree.specs.Posts.{most_moves}
use Rattle.script_code.specs.Operations.{Operation, End, Begin}
use Rattle.script_code.specs.Placed.{is_placed, is_end, last_place, is_listing, listing_of}
use Rattle.script_code.specs.FlatPosts.{first_spot, last_spot, spot, flat_head, flat_pending}
use Rattle.script_code.specs.CodeOf.{BeginsWhereHeld, IsCodeOf}
use Rattle.script_code.specs.Layout.{entry, codes_of, body_code, thread_code, code_from}
use Rattle.script_code.specs.Layout.{script_code}
use Rattle.script_code.proofs.Laid.{Follows, follows_all, has_all, has_front, laid_all}
use Rattle.script_code.proofs.Alike.{alike_before, pending_alike}
use Rattle.script_tree.proofs.laws.Conjunctions.{left_true, right_true, all-append}
use Rattle.script_code.proofs.Placing.{placed_codes}
use Rattle.script_code.proofs.Placing.{body_goes_on, length-body_code, end_at, last_is_end, lt}

entry_is : (at : ℕ) (body : Statements) → entry at (at + counts_of body) body ≡ at
entry_is at (Closed line) = omega arith
entry_is at (Then s rest) = refl

-- the statements of a thread follow in its code
body_follows : (before : List Operation) (body : Statements)
    → Follows (before ++ body_code (length before) body) (end_line body) (length before)
    (statement_list body)
body_follows before body =
    let at = length before in
    let next = at + counts_of body in
    let code = before ++ body_code at body in
    let stands = has_front code at (codes_of at next body) (End (end_line body) ∷ [])
    (has_all (body_code at body) before) in
    let follows = follows_all code (end_line body) body [] (entry at next body) next
    (laid_all code body at next stands) (end_at before body) in
    let P : ℕ → List _ → Type 0 = λ place rest. Follows code (end_line body) place rest in
    subst (λ rest. P at rest) (append-nil (statement_list body))
    (subst (λ place. P place (statement_list body ++ [])) (entry_is at body) follows)

body_posts : (before : List Operation) (body : Statements) (limit : ℕ) (answers : List ℤ) →
    pending_from (flat_head (before ++ body_code (length before) body))
    (last_spot (before ++ body_code (length before) body)) limit
    (spot (length before) (replicate 16 (pos 0))) answers
    ≡ body_pending limit body answers
body_posts before body limit answers =
    let code = before ++ body_code (length before) body in
    let last = last_is_end before body in
    pending_alike code (end_line body) last limit answers (at_start body)
    (spot (length before) (replicate 16 (pos 0)))
    (alike_before code (end_line body) last (statement_list body) (replicate 16 (pos 0))
    (length before)
    (body_follows before body))

-- a thread's code posts what the thread does
thread_posts : (held : Bool) (t : Thread) (limit : ℕ) (answers : List ℤ) →
    pending_from (flat_head (thread_code held t)) (last_spot (thread_code held t)) limit first_spot
    answers ≡ held_pending held limit t answers
thread_posts false t limit answers = body_posts [] t.body limit answers
thread_posts true t zero [] = refl
thread_posts true t (suc limit) [] = refl
thread_posts true t zero (x ∷ answers) = body_posts (Begin t.line 1 ∷ []) t.body zero answers
thread_posts true t (suc limit) (x ∷ answers) =
    body_posts (Begin t.line 1 ∷ []) t.body (suc limit) answers

-- a list whose last operation is its end
listed : (code : List Operation) (end : ℕ) → list_all (is_placed (length code)) code ≡ true
    → slice_get code (last_place code) ≡ Some (End end) → length code < 2 ^ 32
    → is_listing code ≡ true
listed code end placed last short =
    and_from (list_all (is_placed (length code)) code && is_end (slice_get code (last_place code)))
    (nat_lt (length code) (2 ^ 32))
    (and_from (list_all (is_placed (length code)) code) (is_end (slice_get code (last_place code)))
    placed (ap is_end last))
    (lt (length code) (2 ^ 32) short)

module _ (version : ℕ) (names : NameLists) where
  body_placed : (n at : ℕ) (body : Statements) → statements_fit version names 32 body ≡ true
      → at + counts_of body < n → list_all (is_placed n) (body_code at body) ≡ true
  body_placed n at body fits below =
      all-append (is_placed n) (codes_of at (at + counts_of body) body) (End (end_line body) ∷ [])
      (placed_codes version names n body 32 at (at + counts_of body) fits (omega arith) below)
      refl

  thread_listed : (held : Bool) (t : Thread) → thread_fits version names t ≡ true
      → is_listing (thread_code held t) ≡ true
  thread_listed held t fits = go held
    where
      front : Bool
      front = line_fits t.line && statements_fit version names 32 t.body

      body_fits : statements_fit version names 32 t.body ≡ true
      body_fits =
          right_true (line_fits t.line) (statements_fit version names 32 t.body)
          (left_true front (nat_le (counts_of t.body) 4096) fits)

      few : counts_of t.body ≤ 4096
      few = let e = right_true front (nat_le (counts_of t.body) 4096) fits in
          grind (arith, nat_tests)

      go : (held : Bool) → is_listing (thread_code held t) ≡ true
      go false =
          let l = length-body_code 0 t.body in
          listed (body_code 0 t.body) (end_line t.body)
          (body_placed (length (body_code 0 t.body)) 0 t.body body_fits (omega arith))
          (last_is_end [] t.body) (omega (arith, few))
      go true =
          let l = length-body_code 1 t.body in
          let code = Begin t.line 1 ∷ body_code 1 t.body in
          listed code (end_line t.body)
          (and_from (is_placed (length code) (Begin t.line 1))
          (list_all (is_placed (length code)) (body_code 1 t.body))
          (lt 1 (length code) (omega arith))
          (body_placed (length code) 1 t.body body_fits (omega arith)))
          (last_is_end (Begin t.line 1 ∷ []) t.body)
          (omega (arith, few))

  code_listed : (script : ScriptText) (k : ℕ) (threads : List Thread)
      → list_all (thread_fits version names) threads ≡ true
      → list_all is_listing (code_from script k threads) ≡ true
  code_listed script k [] fits = refl
  code_listed script k (t ∷ threads) fits =
      and_from (is_listing (thread_code (is_held script k) t))
      (list_all is_listing (code_from script (k + 1) threads))
      (thread_listed (is_held script k) t
      (left_true (thread_fits version names t) (list_all (thread_fits version names) threads)
      fits))
      (code_listed script (k + 1) threads
      (right_true (thread_fits version names t) (list_all (thread_fits version names) threads)
      fits))

-- every list of a sound script's code names only places that it has
pub all_listed : (script : ScriptText) → IsScript script
    → list_all is_listing (script_code script) ≡ true
all_listed script sound =
    code_listed script.version script.names script 0 script.threads sound.threads_fit

pub length-code_from : (script : ScriptText) (k : ℕ) (threads : List Thread)
    → length (code_from script k threads) ≡ length threads
length-code_from script k [] = refl
length-code_from script k (t ∷ threads) = ap suc (length-code_from script (k + 1) threads)

-- a thread's list is its own code
listing_from : (script : ScriptText) (k : ℕ) (threads : List Thread) (t : ℕ) → t < length threads →
    listing_of (code_from script k threads) t
    ≡ thread_code (is_held script (k + t)) (slice_index_or threads t no_thread)
listing_from script k [] t below = absurd (omega arith)
listing_from script k (thread ∷ threads) zero below = let e : k ≡ k + 0 = omega arith in
    ap (λ (n : ℕ). thread_code (is_held script n) thread) e
listing_from script k (thread ∷ threads) (suc t) below =
    let e : k + 1 + t ≡ k + suc t = omega arith in
    listing_from script (k + 1) threads t (omega arith)
    ∙ ap (λ (n : ℕ). thread_code (is_held script n) (slice_index_or threads t no_thread)) e

pub listing_is : (script : ScriptText) (t : ℕ) → t < length script.threads
    → listing_of (script_code script) t ≡ thread_code (is_held script t) (thread_of script t)
listing_is script t below =
    let e : 0 + t ≡ t = omega arith in
    listing_from script 0 script.threads t below
    ∙ ap (λ (n : ℕ). thread_code (is_held script n) (thread_of script t)) e

begins : (held : Bool) (t : Thread) → BeginsWhereHeld held t.line (thread_code held t)
begins false t = body_goes_on 0 t.body
begins true t = (body_code 1 t.body, 1, refl, body_goes_on 1 t.body)

pub is_code_of : (script : ScriptText) → IsCodeOf script (script_code script)
is_code_of script = record {
  threads = length-code_from script 0 script.threads;
  posts = λ t below answers.
      ap (λ code. flat_pending code answers) (listing_is script t below)
      ∙ thread_posts (is_held script t) (thread_of script t) most_moves answers;
  begins =
      λ t below. subst (BeginsWhereHeld (is_held script t) (thread_of script t).line)
      (sym (listing_is script t below)) (begins (is_held script t) (thread_of script t));
}

-- The threads of a script from one of them on.
use Rattle.std.proofs.Common.{◌≡◌, ℕ, ◌+◌, ◌<◌, ◌≤◌, ◌&&◌, cond, zero, suc, Bool, true, false}
use Rattle.std.proofs.Common.{List, [], ◌∷◌, ◌++◌, length, map, get_or, drop, refl, sym, ap, ap₂}
use Rattle.std.proofs.Common.{◌∙◌, subst, arith, append_assoc, append-nil}
use Rattle.std.specs.List.{list_all, list_any}
use Rattle.std.proofs.lemmas.List.{drop_all, length-map, map-append}
use Rattle.std.proofs.lemmas.Bool.Decides.{nat_tests}
use Rattle.std.specs.Prelude.{nat_le}
use Rattle.script_tree.specs.Fitting.{counts_of, line_fits, statements_fit, thread_fits, IsScript}
use Rattle.script_tree.specs.Seen.{block}
use Rattle.script_tree.specs.ScriptText.{Thread}
use Rattle.script_tree.specs.ScriptParts.{thread_text}
use Rattle.script_tree.specs.ScriptSeen.{plain_script}
use Rattle.script_tree.specs.Posts.{any_starts}
use Rattle.script_tree.proofs.laws.SeenParts.{end_line-block}
use Rattle.script_tree.proofs.laws.Conjunctions.{left_true, right_true}
use Rattle.script_tree.specs.declared.script.Script.{Script}
use Rattle.script_tree.specs.declared.stmt.ThreadText.{ThreadText}
use Rattle.script_code.specs.declared.flat.Flat.{Flat}
use Rattle.script_code.specs.declared.flat.Flat.TheVariants as flats
use Rattle.script_code.specs.Operations.{End, operation, operations, listings}
use Rattle.script_code.specs.Layout.{begin_operations, codes_of, body_code, thread_code, code_from}
use Rattle.script_code.specs.Layout.{script_code}

abbrev pub threads_from : Script → ℕ → List Thread
threads_from script i = map thread_text (drop i script.threads.items)

pub threads_end : (script : Script) (i : ℕ) → length script.threads.items ≤ i
    → threads_from script i ≡ []
threads_end script i past = ap (λ l. map thread_text l) (drop_all i script.threads.items past)

-- whether one of the threads from a place on starts the thread t
abbrev pub starts_from : Script → ℕ → ℕ → Bool
starts_from script i t = list_any (λ (th : Thread). any_starts t th.body) (threads_from script i)

-- the code of a thread, as it is made
pub thread_code_is : (held : Bool) (t : Thread)
    → thread_code held t ≡ begin_operations held t.line
    ++ body_code (length (begin_operations held t.line)) t.body
thread_code_is false t = refl
thread_code_is true t = refl

pub listings_all : (script : Script) (threads : List (List Flat)) (i : ℕ)
    → length script.threads.items ≤ i →
    listings threads ++ code_from (plain_script script) i (threads_from script i)
    ≡ script_code (plain_script script) → listings threads ≡ script_code (plain_script script)
listings_all script threads i past h =
    let none = ap (λ l. code_from (plain_script script) i l) (threads_end script i past) in
    sym (append-nil (listings threads)) ∙ ap (λ l. listings threads ++ l) (sym none) ∙ h

pub thread_made : (held : Bool) (th : ThreadText) (ops emitted made : List Flat) (end : ℕ) →
    operations ops ≡ begin_operations held th.line → end ≡ length ops + counts_of (block th.body) →
    operations emitted ≡ operations ops ++ codes_of (length ops) end (block th.body)
    → made ≡ emitted ++ flats.End th.body.end_line ∷ [] →
    operations made ≡ thread_code held (thread_text th)
thread_made held th ops emitted made end begun at_end e m =
    let first = begin_operations held th.line in
    let n : length ops ≡ length first = sym (length-map ops operation) ∙ ap length begun in
    let body = block th.body in
    ap operations m
    ∙ map-append operation emitted (flats.End th.body.end_line ∷ [])
    ∙ ap (λ l. l ++ End th.body.end_line ∷ []) e
    ∙ append_assoc (operations ops) (codes_of (length ops) end body) (End th.body.end_line ∷ [])
    ∙ ap₂ (λ l (k : ℕ). l ++ (codes_of (length ops) k body ++ End th.body.end_line ∷ [])) begun
    at_end
    ∙ ap₂ (λ (k line : ℕ). first ++ (codes_of k (k + counts_of body) body ++ End line ∷ [])) n
    (sym (end_line-block th.body))
    ∙ sym (thread_code_is held (thread_text th))

fits_at : (p : Thread → Bool) (xs : List ThreadText) (i : ℕ) (t : ThreadText)
    → list_all p (map thread_text xs) ≡ true → i < length xs → t ≡ get_or xs i t
    → p (thread_text t) ≡ true
fits_at p [] i t all below e = absurd (omega arith)
fits_at p (x ∷ xs) zero t all below e =
    ap (λ y. p (thread_text y)) e ∙ left_true (p (thread_text x))
    (list_all p (map thread_text xs)) all
fits_at p (x ∷ xs) (suc i) t all below e =
    fits_at p xs i t (right_true (p (thread_text x)) (list_all p (map thread_text xs)) all)
    (omega arith) e

pub few_statements : (script : Script) (i : ℕ) (t : ThreadText) → IsScript (plain_script script)
    → i < length script.threads.items → t ≡ get_or script.threads.items i t
    → counts_of (block t.body) ≤ 4096
few_statements script i t sound below e =
    let version = script.version in
    let names = script.names in
    let fits = fits_at (thread_fits version names) script.threads.items i t sound.threads_fit below
    e in
    let few = right_true (line_fits t.line && statements_fit version names 32 (block t.body))
    (nat_le (counts_of (block t.body)) 4096) fits in
    grind (arith, nat_tests)

pub few_threads : (script : Script) → IsScript (plain_script script)
    → length script.threads.items ≤ 64
few_threads script sound =
    let n : length (map thread_text script.threads.items) ≡ length script.threads.items =
    length-map script.threads.items thread_text in
    most (nat_le 3 script.version) (subst (λ (k : ℕ). k ≤ cond (nat_le 3 script.version) 64 16) n
    sound.few_threads)
  where
    most : (b : Bool) → length script.threads.items ≤ cond b 64 16
        → length script.threads.items ≤ 64
    most true h = h
    most false h = omega arith

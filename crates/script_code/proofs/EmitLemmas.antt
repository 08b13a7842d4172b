-- The operations that are appended are those of the statements.
use Rattle.std.proofs.Common.{◌≡◌, ℕ, ◌+◌, List, [], ◌∷◌, ◌++◌, length, Result, Ok}
use Rattle.std.proofs.Common.{Err, OnOk, sym, ap, ap₂, ◌∙◌, append_assoc, length-append}
use Rattle.std.proofs.lemmas.List.{length-map, map-append}
use Rattle.script_tree.specs.Trees.{Expression, Statement, Statements, Then, If, IfElse, While}
use Rattle.script_tree.specs.Fitting.{count_of, counts_of}
use Rattle.script_code.specs.declared.flat.Flat.{Flat}
use Rattle.script_code.specs.Operations.{Operation, Test, operation, operations}
use Rattle.script_code.specs.Layout.{entry, code_of, codes_of}
use Rattle.script_code.proofs.Laid.{length-code_of, length-codes_of}

-- one more operation
one_more : (old new : List Flat) (flat : Flat) (op : Operation) → new ≡ old ++ flat ∷ []
    → operation flat ≡ op → operations new ≡ operations old ++ op ∷ []
one_more old new flat op e o =
    ap operations e ∙ map-append operation old (flat ∷ []) ∙ ap (λ x. operations old ++ x ∷ []) o

length-operations : (flats : List Flat) → length (operations flats) ≡ length flats
length-operations flats = length-map flats operation

-- as long as what it is made of
longer : (old new : List Flat) (ops : List Operation) → operations new ≡ operations old ++ ops
    → length new ≡ length old + length ops
longer old new ops e =
    sym (length-operations new) ∙ ap length e ∙ length-append (operations old) ops
    ∙ ap (λ n. n + length ops) (length-operations old)

-- an operation, and then others
pub then_more : (old mid new : List Flat) (flat : Flat) (op : Operation) (ops : List Operation)
    → mid ≡ old ++ flat ∷ [] → operation flat ≡ op → operations new ≡ operations mid ++ ops
    → operations new ≡ operations old ++ op ∷ ops
then_more old mid new flat op ops e o m =
    m ∙ ap (λ l. l ++ ops) (one_more old mid flat op e o)
    ∙ append_assoc (operations old) (op ∷ []) ops

pub emit_if : (old mid new : List Flat) (flat : Flat) (line next a : ℕ) (test : Expression)
    (first : Statements) (s : Statement) →
    mid ≡ old ++ flat ∷ [] → operation flat ≡ Test line test a next
    → a ≡ entry (length old + 1) next first →
    operations new ≡ operations mid ++ codes_of (length mid) next first → s ≡ If line test first →
    operations new ≡ operations old ++ code_of (length old) next s
emit_if old mid new flat line next a test first s e o begins m is =
    let l : length mid ≡ length old + 1 = ap length e ∙ length-append old (flat ∷ []) in
    then_more old mid new flat (Test line test a next) (codes_of (length mid) next first) e o m
    ∙ ap₂ (λ (k n : ℕ). operations old ++ (Test line test k next ∷ codes_of n next first)) begins l
    ∙ ap (λ x. operations old ++ code_of (length old) next x) (sym is)

pub emit_while : (old mid new : List Flat) (flat : Flat) (line next a : ℕ) (test : Expression)
    (body : Statements) (s : Statement) →
    mid ≡ old ++ flat ∷ [] → operation flat ≡ Test line test a next
    → a ≡ entry (length old + 1) (length old) body →
    operations new ≡ operations mid ++ codes_of (length mid) (length old) body
    → s ≡ While line test body →
    operations new ≡ operations old ++ code_of (length old) next s
emit_while old mid new flat line next a test body s e o begins m is =
    let l : length mid ≡ length old + 1 = ap length e ∙ length-append old (flat ∷ []) in
    then_more old mid new flat (Test line test a next) (codes_of (length mid) (length old) body) e o
    m
    ∙ ap₂ (λ (k n : ℕ). operations old ++ (Test line test k next ∷ codes_of n (length old) body))
    begins l
    ∙ ap (λ x. operations old ++ code_of (length old) next x) (sym is)

pub emit_if_else : (old mid half new : List Flat) (flat : Flat) (line next a b : ℕ)
    (test : Expression) (first otherwise : Statements) (s : Statement) →
    mid ≡ old ++ flat ∷ [] → operation flat ≡ Test line test a b
    → a ≡ entry (length old + 1) next first →
    b ≡ entry (length old + 1 + counts_of first) next otherwise →
    operations half ≡ operations mid ++ codes_of (length mid) next first →
    operations new ≡ operations half ++ codes_of (length half) next otherwise
    → s ≡ IfElse line test first otherwise →
    operations new ≡ operations old ++ code_of (length old) next s
emit_if_else old mid half new flat line next a b test first otherwise s e o begins then_begins m n
    is =
    let l : length mid ≡ length old + 1 = ap length e ∙ length-append old (flat ∷ []) in
    let k : length half ≡ length old + 1 + counts_of first =
    longer mid half (codes_of (length mid) next first) m
    ∙ ap₂ (λ (x y : ℕ). x + y) l (length-codes_of first (length mid) next) in
    let both : operations new ≡ operations mid
    ++ (codes_of (length mid) next first ++ codes_of (length half) next otherwise) =
    n ∙ ap (λ x. x ++ codes_of (length half) next otherwise) m
    ∙ append_assoc (operations mid) (codes_of (length mid) next first)
    (codes_of (length half) next otherwise) in
    then_more old mid new flat (Test line test a b)
    (codes_of (length mid) next first ++ codes_of (length half) next otherwise) e o both
    ∙ ap₂ (λ (x y : ℕ). operations old
    ++ (Test line test x y ∷ (codes_of (length mid) next first
    ++ codes_of (length half) next otherwise))) begins then_begins
    ∙ ap₂ (λ (x y : ℕ). operations old
    ++ (Test line test (entry (length old + 1) next first)
    (entry (length old + 1 + counts_of first) next otherwise)
    ∷ (codes_of x next first ++ codes_of y next otherwise))) l k
    ∙ ap (λ x. operations old ++ code_of (length old) next x) (sym is)

-- the next statement of a block
pub emit_length : (old new : List Flat) (s : Statement) (after : ℕ)
    → operations new ≡ operations old ++ code_of (length old) after s
    → length new ≡ length old + count_of s
emit_length old new s after e =
    longer old new (code_of (length old) after s) e
    ∙ ap (λ n. length old + n) (length-code_of s (length old) after)

pub emit_all_length : (old new : List Flat) (ss : Statements) (next : ℕ)
    → operations new ≡ operations old ++ codes_of (length old) next ss
    → length new ≡ length old + counts_of ss
emit_all_length old new ss next e =
    longer old new (codes_of (length old) next ss) e
    ∙ ap (λ n. length old + n) (length-codes_of ss (length old) next)

pub push_length : (old new : List Flat) (flat : Flat) → new ≡ old ++ flat ∷ []
    → length new ≡ length old + 1
push_length old new flat e = ap length e ∙ length-append old (flat ∷ [])

pub emit_next : (next : ℕ) (old new : List Flat) (s : Statement) (rest whole : Statements)
    (after : ℕ) →
    whole ≡ Then s rest → after ≡ entry (length old + count_of s) next rest
    → operations new ≡ operations old ++ code_of (length old) after s →
    operations new ++ codes_of (length new) next rest
    ≡ operations old ++ codes_of (length old) next whole
emit_next next old new s rest whole after is begins e =
    let n = emit_length old new s after e in
    ap₂ (λ l (k : ℕ). l ++ codes_of k next rest) e n
    ∙ append_assoc (operations old) (code_of (length old) after s)
    (codes_of (length old + count_of s) next rest)
    ∙ ap (λ (a : ℕ). operations old ++ (code_of (length old) a s
    ++ codes_of (length old + count_of s) next rest)) begins
    ∙ ap (λ x. operations old ++ codes_of (length old) next x) (sym is)

pub on_ok : {E P Q : Type 0} (r : Result (Unit {0}) E) → (P → Q) → OnOk r P → OnOk r Q
on_ok (Ok x) f h = f h
on_ok (Err e) f h = h

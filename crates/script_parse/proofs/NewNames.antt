-- A name that is still to come among names without doubles is new.
use Rattle.std.proofs.Common.{◌≡◌, ℕ, suc, ◌+◌, ◌≤◌, Bool, true, false, List, [], ◌∷◌, ◌++◌, refl}
use Rattle.std.proofs.Common.{sym, ap, ◌∙◌, arith}
use Rattle.std.specs.Prelude.{◌||◌}
use Rattle.std.specs.Str.{bytes_eq}
use Rattle.std.proofs.lemmas.Bool.{or_parts}
use Rattle.pct_ask.specs.Words.{is_among}
use Rattle.pct_ask.specs.NameLists.{NameLists, AreDistinct, list_of, all_names}
use Rattle.pct_ask.specs.declared.names.NameKind.{NameKind}
use Rattle.pct_ask.specs.declared.names.NameKind.TheVariants as kinds
use Rattle.script_parse.proofs.Choices.{same_bytes}
use Rattle.pct_ask.proofs.laws.SameWords.{bytes_eq-self}

abbrev once : Bool → ℕ
once true = 1
once false = 0

-- how often a name stands in a list
abbrev times : List ℕ → List (List ℕ) → ℕ
times name [] = 0
times name (x ∷ xs) = once (bytes_eq name x) + times name xs

plus_over : (c n a b : ℕ) → n ≡ a + b → c + n ≡ (c + a) + b
plus_over c n a b h = omega (arith, h)

times_append : (name : List ℕ) (xs ys : List (List ℕ))
    → times name (xs ++ ys) ≡ times name xs + times name ys
times_append name [] ys = omega arith
times_append name (x ∷ xs) ys =
    plus_over (once (bytes_eq name x)) (times name (xs ++ ys)) (times name xs) (times name ys)
    (times_append name xs ys)

not_there : (name : List ℕ) (xs : List (List ℕ)) → is_among name xs ≡ false → times name xs ≡ 0
not_there name [] h = refl
not_there name (x ∷ xs) h =
    let p = or_parts (bytes_eq name x) (is_among name xs) h in
    let first : once (bytes_eq name x) ≡ 0 = rw p.0 refl in
    let rest = not_there name xs p.1 in
    omega (arith, first, rest)

never_there : (name : List ℕ) (xs : List (List ℕ)) → times name xs ≡ 0 → is_among name xs ≡ false
never_there name [] h = refl
never_there name (x ∷ xs) h = by (bytes_eq name x) refl h (λ e. never_there name xs e)
  where
    by : (b : Bool) → bytes_eq name x ≡ b → once (bytes_eq name x) + times name xs ≡ 0
        → (times name xs ≡ 0 → is_among name xs ≡ false)
        → (bytes_eq name x || is_among name xs) ≡ false
    by true e sum rest = let first : once (bytes_eq name x) ≡ 1 = rw e refl in
        absurd (omega (arith, sum, first))
    by false e sum rest =
        let first : once (bytes_eq name x) ≡ 0 = rw e refl in
        let none : times name xs ≡ 0 = omega (arith, sum, first) in
        rw (e, rest none) refl

few_times : (name : List ℕ) (xs : List (List ℕ)) → AreDistinct xs → times name xs ≤ 1
few_times name [] h = omega arith
few_times name (x ∷ xs) h = by (bytes_eq name x) refl (few_times name xs h.1)
  where
    by : (b : Bool) → bytes_eq name x ≡ b → times name xs ≤ 1
        → once (bytes_eq name x) + times name xs ≤ 1
    by true e few =
        let first : once (bytes_eq name x) ≡ 1 = rw e refl in
        let none : times name xs ≡ 0 = not_there name xs
        (ap (λ (y : List ℕ). is_among y xs) (same_bytes name x e) ∙ h.0) in
        omega (arith, first, none)
    by false e few =
        let first : once (bytes_eq name x) ≡ 0 = rw e refl in
        omega (arith, first, few)

-- how often a name stands in all lists
abbrev in_all : (NameKind → ℕ) → ℕ
in_all f =
    f kinds.Thread + (f kinds.Var + (f kinds.Mutex
    + (f kinds.Cond + (f kinds.Sem + (f kinds.Barrier + f kinds.RwLock)))))

in_one : (f : NameKind → ℕ) (kind : NameKind) → f kind ≤ in_all f
in_one f kinds.Thread = omega arith
in_one f kind = omega arith

times_all : (name : List ℕ) (names : NameLists)
    → times name (all_names names) ≡ in_all (λ k. times name (list_of k names))
times_all name names =
    let a = times_append name names.threads
    (names.vars ++ (names.mutexes ++ (names.conds
    ++ (names.sems ++ (names.barriers ++ names.rwlocks))))) in
    let b = times_append name names.vars
    (names.mutexes ++ (names.conds ++ (names.sems ++ (names.barriers ++ names.rwlocks)))) in
    let c = times_append name names.mutexes
    (names.conds ++ (names.sems ++ (names.barriers ++ names.rwlocks))) in
    let d = times_append name names.conds (names.sems ++ (names.barriers ++ names.rwlocks)) in
    let e = times_append name names.sems (names.barriers ++ names.rwlocks) in
    let f = times_append name names.barriers names.rwlocks in
    omega (arith, a, b, c, d, e, f)

-- each list of `names` is that of `small` and more, and the name is the first of more
pub fresh_name : (names small : NameLists) (kind : NameKind) (name : List ℕ)
    (more : NameKind → List (List ℕ)) (rest : List (List ℕ)) → AreDistinct (all_names names)
    → ((k : NameKind) → list_of k small ++ more k ≡ list_of k names) → more kind ≡ name ∷ rest
    → is_among name (all_names small) ≡ false
fresh_name names small kind name more rest distinct split first =
    never_there name (all_names small) (omega (arith, all, few, each, one, here, small_all))
  where
    parted : (k : NameKind) → times name (list_of k names)
        ≡ times name (list_of k small) + times name (more k)
    parted k = ap (times name) (sym (split k)) ∙ times_append name (list_of k small) (more k)

    sums : (f g h : NameKind → ℕ) → ((k : NameKind) → f k ≡ g k + h k)
        → in_all f ≡ in_all g + in_all h
    sums f g h e =
        let a = e kinds.Thread in let b = e kinds.Var in let c = e kinds.Mutex in
        let d = e kinds.Cond in let i = e kinds.Sem in let j = e kinds.Barrier in
        let k = e kinds.RwLock in
        omega (arith, a, b, c, d, i, j, k)

    all : times name (all_names names) ≡ in_all (λ k. times name (list_of k names))
    all = times_all name names

    few : times name (all_names names) ≤ 1
    few = few_times name (all_names names) distinct

    each : in_all (λ k. times name (list_of k names))
        ≡ in_all (λ k. times name (list_of k small)) + in_all (λ k. times name (more k))
    each =
        sums (λ k. times name (list_of k names)) (λ k. times name (list_of k small))
        (λ k. times name (more k)) parted

    one : times name (more kind) ≤ in_all (λ k. times name (more k))
    one = in_one (λ k. times name (more k)) kind

    there : times name (name ∷ rest) ≡ suc (times name rest)
    there = let first : once (bytes_eq name name) ≡ 1 = rw (bytes_eq-self name) refl in
        omega (arith, first)

    here : times name (more kind) ≡ suc (times name rest)
    here = ap (times name) first ∙ there

    small_all : times name (all_names small) ≡ in_all (λ k. times name (list_of k small))
    small_all = times_all name small

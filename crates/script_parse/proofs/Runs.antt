-- The lines of a script's statements are taken one after another.
use Rattle.std.proofs.Common.{◌≡◌, ℕ, ◌-◌, ◌<◌, true, false, length, List, [], ◌∷◌, ◌++◌, Some}
use Rattle.std.proofs.Common.{refl, sym, ap, ◌∙◌, append_assoc, arith, subst}
use Rattle.std.specs.Prelude.{nat_le, nat_lt, not, ◌&&◌, is_some}
use Rattle.std.proofs.lemmas.List.{append-nil}
use Rattle.std.proofs.lemmas.Bool.{and_parts, ltb-true, lt-leb}
use Rattle.std.proofs.lemmas.Bool.Decides.{nat_tests}
use Rattle.pct_ask.specs.NameLists.{NameLists, list_of}
use Rattle.pct_ask.specs.declared.names.NameKind.{NameKind}
use Rattle.pct_ask.specs.declared.names.NameKind.TheVariants as kinds
use Rattle.pct_ask.specs.declared.statement_verbs.OnVerb.TheVariants as on_verbs
use Rattle.pct_ask.specs.declared.statement_verbs.IntoVerb.TheVariants as into_verbs
use Rattle.pct_ask.specs.declared.statement_verbs.OnVerb.{OnVerb}
use Rattle.pct_ask.specs.declared.statement_verbs.IntoVerb.{IntoVerb}
use Rattle.pct_ask.specs.TraceText.{name_at}
use Rattle.pct_ask.specs.StatementVerbs.{on_kind, into_kind}
use Rattle.script_tree.specs.Trees.{Expression, Statement, Statements, Closed, Then, statement_list}
use Rattle.script_tree.specs.Trees.{end_line, closed_at}
use Rattle.script_tree.specs.Trees as trees
use Rattle.script_tree.specs.Forms.{MeantForm}
use Rattle.script_tree.specs.Forms as forms
use Rattle.script_tree.specs.Fitting.{line_fits, reg_fits, place_fits, expression_fits}
use Rattle.script_tree.specs.Fitting.{statement_fits, statements_fit}
use Rattle.script_tree.specs.Grammar.{Line, statement_lines, block_lines}
use Rattle.script_tree.specs.Faults as faults
use Rattle.script_parse.specs.Part.{Opening, If, Else, While, Open, ReadPart}
use Rattle.script_parse.specs.Reading as reading
use Rattle.script_parse.specs.Reading.{Finder, so_far_in, is_known_name, is_empty, with_form}
use Rattle.script_parse.specs.Reading.{place_in, on_statement, into_statement}

-- a line of this form has no fault, its numbers and its being the last line aside
pub record IsFree (part : ReadPart) (find : Finder) (meant : MeantForm) : Type 0 where
  pub stands : faults.may_stand (so_far_in part) meant ≡ true
  pub known : faults.uses_unknown (is_known_name part.names find) meant ≡ false
  pub fresh : faults.declares_again (so_far_in part) meant ≡ false
  pub closes : faults.closes_nothing (so_far_in part) meant ≡ false
  pub few : faults.is_too_many (so_far_in part) meant ≡ false

-- these lines, one after another, make this of what was read
abbrev pub Runs : Finder → ReadPart → List Line → ReadPart → Type 0
Runs find part [] last = part ≡ last
Runs find part (line ∷ lines) last =
    IsFree part find line.1 × Runs find (with_form part find line.0 line.1) lines last

pub some_there : {A : Type 0} (x : A) (xs : List A) → is_empty (x ∷ xs) ≡ false
some_there x xs = let some : 0 < length (x ∷ xs) = omega arith in grind (arith, nat_tests)

pub closed_again : (body : Statements) → closed_at (end_line body) (statement_list body) ≡ body
closed_again (Closed line) = refl
closed_again (Then s rest) = ap (Then s) (closed_again rest)

module _ (find : Finder) (part : ReadPart) (names : NameLists) (version : ℕ)
    (found : (kind : NameKind) (place : ℕ) → place_fits (list_of kind names) place ≡ true
    → place_in part.names find kind (name_at (list_of kind names) place) ≡ Some place) where
  -- what was read, with these open blocks
  abbrev at : List Open → ReadPart
  at blocks = record part { open_blocks = blocks }

  abbrev inside : Opening → List Statement → List Open → List Open
  inside opening done outer = record { opening = opening; done = done } ∷ outer

  known_at : (kind : NameKind) (place : ℕ) → place_fits (list_of kind names) place ≡ true
      → not (is_some (place_in part.names find kind (name_at (list_of kind names) place))) ≡ false
  known_at kind place p = rw (found kind place p) refl

  -- one line that is a statement of its own
  simple : (opening : Opening) (done : List Statement) (outer : List Open) (line : Line)
      (rest : List Line) (last : ReadPart) (s : Statement)
      → faults.may_stand (so_far_in (at (inside opening done outer))) line.1
      ≡ not (is_empty (inside opening done outer))
      → faults.uses_unknown (is_known_name part.names find) line.1 ≡ false
      → faults.declares_again (so_far_in (at (inside opening done outer))) line.1 ≡ false
      → faults.closes_nothing (so_far_in (at (inside opening done outer))) line.1 ≡ false
      → faults.is_too_many (so_far_in (at (inside opening done outer))) line.1 ≡ false
      → with_form (at (inside opening done outer)) find line.0 line.1
      ≡ at (inside opening (done ++ s ∷ []) outer)
      → Runs find (at (inside opening (done ++ s ∷ []) outer)) rest last
      → Runs find (at (inside opening done outer)) (line ∷ rest) last
  simple opening done outer line rest last s m u d c t e r = (
    record {
      stands = m ∙ ap not (some_there (record { opening = opening; done = done }) outer);
      known = u;
      fresh = d;
      closes = c;
      few = t;
    },
    subst (λ (p : ReadPart). Runs find p rest last) (sym e) r,
  )

  on_line : (verb : OnVerb) (line place : ℕ) (opening : Opening) (done : List Statement)
      (outer : List Open) (rest : List Line) (last : ReadPart)
      → place_fits (list_of (on_kind verb) names) place ≡ true
      → Runs find (at (inside opening (done ++ on_statement verb line place ∷ []) outer)) rest last
      → Runs find (at (inside opening done outer))
      ((line, forms.On verb (name_at (list_of (on_kind verb) names) place)) ∷ rest) last
  on_line verb line place opening done outer rest last p r =
      simple opening done outer (
        line,
        forms.On verb (name_at (list_of (on_kind verb) names) place),
      ) rest last
      (on_statement verb line place) refl (known_at (on_kind verb) place p) refl refl refl
      (rw (found (on_kind verb) place p) refl) r

  into_line : (verb : IntoVerb) (line reg place : ℕ) (opening : Opening)
      (done : List Statement) (outer : List Open) (rest : List Line) (last : ReadPart)
      → place_fits (list_of (into_kind verb) names) place ≡ true
      → Runs find (at (inside opening (done ++ into_statement verb line reg place ∷ []) outer)) rest
      last → Runs find (at (inside opening done outer))
      ((line, forms.Into verb reg (name_at (list_of (into_kind verb) names) place))
      ∷ rest) last
  into_line verb line reg place opening done outer rest last p r =
      simple opening done outer (
        line,
        forms.Into verb reg (name_at (list_of (into_kind verb) names) place),
      ) rest last
      (into_statement verb line reg place) refl (known_at (into_kind verb) place p) refl
      refl refl (rw (found (into_kind verb) place p) refl) r

  ends_run : (inner : Opening) (body : List Statement) (opening : Opening) (done : List Statement)
      (outer : List Open) (end : ℕ) (rest : List Line) (last : ReadPart) (s : Statement)
      → reading.with_end (at (inside inner body (inside opening done outer)))
      (inside inner body (inside opening done outer)) end
      ≡ at (inside opening (done ++ s ∷ []) outer)
      → Runs find (at (inside opening (done ++ s ∷ []) outer)) rest last
      → Runs find (at (inside inner body (inside opening done outer))) ((end, forms.End) ∷ rest)
      last
  ends_run inner body opening done outer end rest last s e r = (
    record {
      stands = refl;
      known = refl;
      fresh = refl;
      closes = some_there (record { opening = inner; done = body }) (inside opening done outer);
      few = refl;
    },
    subst (λ (p : ReadPart). Runs find p rest last) (sym e) r,
  )

  opens_run : (inner : Opening) (line : Line) (opening : Opening) (done : List Statement)
      (outer : List Open) (rest : List Line) (last : ReadPart)
      → faults.may_stand (so_far_in (at (inside opening done outer))) line.1
      ≡ not (is_empty (inside opening done outer))
      → faults.uses_unknown (is_known_name part.names find) line.1 ≡ false
      → faults.declares_again (so_far_in (at (inside opening done outer))) line.1 ≡ false
      → faults.closes_nothing (so_far_in (at (inside opening done outer))) line.1 ≡ false
      → faults.is_too_many (so_far_in (at (inside opening done outer))) line.1
      ≡ nat_le 33 (length (inside opening done outer)) → length outer < 32
      → with_form (at (inside opening done outer)) find line.0 line.1
      ≡ at (inside inner [] (inside opening done outer))
      → Runs find (at (inside inner [] (inside opening done outer))) rest last
      → Runs find (at (inside opening done outer)) (line ∷ rest) last
  opens_run inner line opening done outer rest last m u d c t few e r =
      let block : Open = record { opening = opening; done = done } in (
        record {
          stands = m ∙ ap not (some_there (record { opening = opening; done = done }) outer);
          known = u;
          fresh = d;
          closes = c;
          few = t ∙ lt-leb 33 (length (inside opening done outer)) (omega (arith, few));
        },
        subst (λ (p : ReadPart). Runs find p rest last) (sym e) r,
      )

  turns_run : (line : ℕ) (test : Expression) (first : Statements) (opening : Opening)
      (done : List Statement) (outer : List Open) (rest : List Line) (last : ReadPart)
      → Runs find (at (inside (Else line test first) [] (inside opening done outer))) rest last
      → Runs find (at (inside (If line test) (statement_list first) (inside opening done outer)))
      ((end_line first, forms.Else) ∷ rest) last
  turns_run line test first opening done outer rest last r = (
    record { stands = refl; known = refl; fresh = refl; closes = refl; few = refl },
    subst (λ (b : Statements). Runs find
        (at (inside (Else line test b) [] (inside opening done outer))) rest last)
        (sym (closed_again first)) r,
  )

  mutual
    pub statement_runs : (s : Statement) (opening : Opening) (done : List Statement)
        (outer : List Open) (rest : List Line) (last : ReadPart) (room : ℕ)
        → room ≡ 32 - length outer
        → statement_fits version names room s ≡ true
        → Runs find (at (inside opening (done ++ s ∷ []) outer)) rest last
        → Runs find (at (inside opening done outer)) (statement_lines names s ++ rest) last
    statement_runs (trees.Read line reg var) opening done outer rest last room e f r =
        into_line into_verbs.Read line reg var opening done outer rest last
        (and_parts (line_fits line && reg_fits reg) (place_fits names.vars var) f).1 r
    statement_runs (trees.Write line var value) opening done outer rest last room e f r =
        let p = (and_parts (line_fits line) (place_fits names.vars var)
        (and_parts (line_fits line && place_fits names.vars var) (expression_fits value)
        f).0).1 in
        simple opening done outer (line, forms.Write (name_at names.vars var) value) rest last
        (trees.Write line var value) refl (known_at kinds.Var var p) refl refl refl
        (rw (found kinds.Var var p) refl) r
    statement_runs (trees.Add line reg var value) opening done outer rest last room e f r =
        let p = (and_parts (line_fits line && reg_fits reg) (place_fits names.vars var)
        (and_parts (line_fits line && reg_fits reg && place_fits names.vars var)
        (expression_fits value) f).0).1 in
        simple opening done outer (line, forms.Add reg (name_at names.vars var) value) rest last
        (trees.Add line reg var value) refl (known_at kinds.Var var p) refl refl refl
        (rw (found kinds.Var var p) refl) r
    statement_runs (trees.Cas line reg var old new) opening done outer rest last room e f r =
        let q = (and_parts (line_fits line && reg_fits reg && place_fits names.vars var
        && expression_fits old) (expression_fits new) f).0 in
        let p = (and_parts (line_fits line && reg_fits reg) (place_fits names.vars var)
        (and_parts (line_fits line && reg_fits reg && place_fits names.vars var)
        (expression_fits old) q).0).1 in
        simple opening done outer (line, forms.Cas reg (name_at names.vars var) old new) rest last
        (trees.Cas line reg var old new) refl (known_at kinds.Var var p) refl refl refl
        (rw (found kinds.Var var p) refl) r
    statement_runs (trees.Lock line mutex) opening done outer rest last room e f r =
        on_line on_verbs.Lock line mutex opening done outer rest last
        (and_parts (line_fits line) (place_fits names.mutexes mutex) f).1 r
    statement_runs (trees.TryLock line reg mutex) opening done outer rest last room e f r =
        into_line into_verbs.TryLock line reg mutex opening done outer rest last
        (and_parts (line_fits line && reg_fits reg) (place_fits names.mutexes mutex) f).1 r
    statement_runs (trees.Unlock line mutex) opening done outer rest last room e f r =
        on_line on_verbs.Unlock line mutex opening done outer rest last
        (and_parts (line_fits line) (place_fits names.mutexes mutex) f).1 r
    statement_runs (trees.Wait line waiting mutex) opening done outer rest last room e f r =
        let a = and_parts (line_fits line && place_fits names.conds waiting)
        (place_fits names.mutexes mutex) f in
        let b = and_parts (line_fits line) (place_fits names.conds waiting) a.0 in
        simple opening done outer (
          line,
          forms.Wait (name_at names.conds waiting) (name_at names.mutexes mutex),
        ) rest last
        (trees.Wait line waiting mutex) refl
        (rw (found kinds.Cond waiting b.1, found kinds.Mutex mutex a.1) refl) refl refl refl
        (rw (found kinds.Cond waiting b.1, found kinds.Mutex mutex a.1) refl) r
    statement_runs (trees.Signal line waiting) opening done outer rest last room e f r =
        on_line on_verbs.Signal line waiting opening done outer rest last
        (and_parts (line_fits line) (place_fits names.conds waiting) f).1 r
    statement_runs (trees.Broadcast line waiting) opening done outer rest last room e f r =
        on_line on_verbs.Broadcast line waiting opening done outer rest last
        (and_parts (line_fits line) (place_fits names.conds waiting) f).1 r
    statement_runs (trees.Down line sem) opening done outer rest last room e f r =
        on_line on_verbs.Down line sem opening done outer rest last
        (and_parts (line_fits line) (place_fits names.sems sem) f).1 r
    statement_runs (trees.TryDown line reg sem) opening done outer rest last room e f r =
        into_line into_verbs.TryDown line reg sem opening done outer rest last
        (and_parts (line_fits line && reg_fits reg) (place_fits names.sems sem) f).1 r
    statement_runs (trees.Up line sem) opening done outer rest last room e f r =
        on_line on_verbs.Up line sem opening done outer rest last
        (and_parts (line_fits line) (place_fits names.sems sem) f).1 r
    statement_runs (trees.Arrive line reg barrier) opening done outer rest last room e f r =
        into_line into_verbs.Arrive line reg barrier opening done outer rest last
        (and_parts (line_fits line && reg_fits reg) (place_fits names.barriers barrier) f).1 r
    statement_runs (trees.Join line thread) opening done outer rest last room e f r =
        on_line on_verbs.Join line thread opening done outer rest last
        (and_parts (line_fits line) (place_fits names.threads thread) f).1 r
    statement_runs (trees.Yield line) opening done outer rest last room e f r =
        simple opening done outer (line, forms.Yield) rest last (trees.Yield line) refl refl refl
        refl refl refl r
    statement_runs (trees.Assert line test) opening done outer rest last room e f r =
        simple opening done outer (line, forms.Assert test) rest last (trees.Assert line test) refl
        refl refl refl refl refl r
    statement_runs (trees.Set line reg value) opening done outer rest last room e f r =
        simple opening done outer (line, forms.Set reg value) rest last (trees.Set line reg value)
        refl refl refl refl refl refl r
    statement_runs (trees.Start line thread) opening done outer rest last room e f r =
        on_line on_verbs.Start line thread opening done outer rest last
        (and_parts (line_fits line && nat_le 2 version) (place_fits names.threads thread) f).1 r
    statement_runs (trees.RdLock line rwlock) opening done outer rest last room e f r =
        on_line on_verbs.RdLock line rwlock opening done outer rest last
        (and_parts (line_fits line && nat_le 3 version) (place_fits names.rwlocks rwlock) f).1 r
    statement_runs (trees.WrLock line rwlock) opening done outer rest last room e f r =
        on_line on_verbs.WrLock line rwlock opening done outer rest last
        (and_parts (line_fits line && nat_le 3 version) (place_fits names.rwlocks rwlock) f).1 r
    statement_runs (trees.TryRdLock line reg rwlock) opening done outer rest last room e f r =
        into_line into_verbs.TryRdLock line reg rwlock opening done outer rest last
        (and_parts (line_fits line && nat_le 3 version && reg_fits reg)
        (place_fits names.rwlocks rwlock) f).1 r
    statement_runs (trees.TryWrLock line reg rwlock) opening done outer rest last room e f r =
        into_line into_verbs.TryWrLock line reg rwlock opening done outer rest last
        (and_parts (line_fits line && nat_le 3 version && reg_fits reg)
        (place_fits names.rwlocks rwlock) f).1 r
    statement_runs (trees.RwUnlock line rwlock) opening done outer rest last room e f r =
        on_line on_verbs.RwUnlock line rwlock opening done outer rest last
        (and_parts (line_fits line && nat_le 3 version) (place_fits names.rwlocks rwlock) f).1 r
    statement_runs (trees.If line test body) opening done outer rest last room e f r =
        let a = and_parts (line_fits line && expression_fits test && nat_lt 0 room)
        (statements_fit version names (room - 1) body) f in
        let some : 0 < room = ltb-true 0 room
        (and_parts (line_fits line && expression_fits test) (nat_lt 0 room) a.0).1 in
        let made : Statement = trees.If line test body in
        opens_run (If line test) (line, forms.If test) opening done outer
        (block_lines names forms.End body ++ rest) last refl refl refl refl refl
        (omega (arith, e, some)) refl
        (body_runs body (If line test) [] (inside opening done outer) forms.End rest last (room - 1)
        (omega (arith, e, some)) a.1
        (ends_run (If line test) (statement_list body) opening done outer (end_line body) rest last
        (trees.If line test body) (ap (λ (b : Statements).
        at (inside opening (done ++ trees.If line test b ∷ []) outer)) (closed_again body)) r))
    statement_runs (trees.While line test body) opening done outer rest last room e f r =
        let a = and_parts (line_fits line && expression_fits test && nat_lt 0 room)
        (statements_fit version names (room - 1) body) f in
        let some : 0 < room = ltb-true 0 room
        (and_parts (line_fits line && expression_fits test) (nat_lt 0 room) a.0).1 in
        opens_run (While line test) (line, forms.While test) opening done outer
        (block_lines names forms.End body ++ rest) last refl refl refl refl refl
        (omega (arith, e, some)) refl
        (body_runs body (While line test) [] (inside opening done outer) forms.End rest last
        (room - 1) (omega (arith, e, some)) a.1
        (ends_run (While line test) (statement_list body) opening done outer (end_line body) rest
        last (trees.While line test body)
        (ap (λ (b : Statements). at (inside opening (done ++ trees.While line test b ∷ [])
        outer)) (closed_again body)) r))
    statement_runs (trees.IfElse line test first otherwise) opening done outer rest last room e f
        r =
        let b = and_parts (line_fits line && expression_fits test && nat_lt 0 room
        && statements_fit version names (room - 1) first)
        (statements_fit version names (room - 1) otherwise) f in
        let a = and_parts (line_fits line && expression_fits test && nat_lt 0 room)
        (statements_fit version names (room - 1) first) b.0 in
        let some : 0 < room = ltb-true 0 room
        (and_parts (line_fits line && expression_fits test) (nat_lt 0 room) a.0).1 in
        let regrouped : block_lines names forms.Else first
        ++ (block_lines names forms.End otherwise ++ rest)
        ≡ (block_lines names forms.Else first ++ block_lines names forms.End otherwise)
        ++ rest = sym (append_assoc (block_lines names forms.Else first)
        (block_lines names forms.End otherwise) rest) in
        opens_run (If line test) (line, forms.If test) opening done outer
        ((block_lines names forms.Else first ++ block_lines names forms.End otherwise) ++ rest)
        last refl refl refl refl refl (omega (arith, e, some)) refl
        (subst (λ (ls : List Line). Runs find
        (at (inside (If line test) [] (inside opening done outer))) ls last) regrouped
        (body_runs first (If line test) [] (inside opening done outer) forms.Else
        (block_lines names forms.End otherwise ++ rest) last (room - 1) (omega (arith, e, some))
        a.1
        (turns_run line test first opening done outer
        (block_lines names forms.End otherwise ++ rest) last
        (body_runs otherwise (Else line test first) [] (inside opening done outer) forms.End rest
        last (room - 1) (omega (arith, e, some)) b.1
        (ends_run (Else line test first) (statement_list otherwise) opening done outer
        (end_line otherwise) rest last (trees.IfElse line test first otherwise)
        (ap (λ (b : Statements). at (inside opening
        (done ++ trees.IfElse line test first b ∷ []) outer)) (closed_again otherwise)) r)))))

    pub body_runs : (body : Statements) (opening : Opening) (done : List Statement)
        (outer : List Open) (closing : MeantForm) (rest : List Line) (last : ReadPart) (room : ℕ)
        → room ≡ 32 - length outer → statements_fit version names room body ≡ true
        → Runs find (at (inside opening (done ++ statement_list body) outer))
        ((end_line body, closing) ∷ rest) last
        → Runs find (at (inside opening done outer)) (block_lines names closing body ++ rest)
        last
    body_runs (Closed line) opening done outer closing rest last room e f r =
        subst (λ (d : List Statement). Runs find (at (inside opening d outer))
        ((line, closing) ∷ rest) last) (append-nil done) r
    body_runs (Then s more) opening done outer closing rest last room e f r =
        let a = and_parts (statement_fits version names room s)
        (statements_fit version names room more) f in
        subst (λ (ls : List Line). Runs find (at (inside opening done outer)) ls last)
        (sym (append_assoc (statement_lines names s) (block_lines names closing more) rest))
        (statement_runs s opening done outer (block_lines names closing more ++ rest) last room e
        a.0
        (body_runs more opening (done ++ s ∷ []) outer closing rest last room e a.1
        (subst (λ (d : List Statement). Runs find (at (inside opening d outer))
        ((end_line more, closing) ∷ rest) last)
        (sym (append_assoc done (s ∷ []) (statement_list more))) r)))

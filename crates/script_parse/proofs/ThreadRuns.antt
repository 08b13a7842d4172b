-- The lines of a script's threads are taken one after another.
use Rattle.std.proofs.Common.{◌≡◌, ℕ, suc, ◌+◌, ◌≤◌, true, false, length, List, [], ◌∷◌, ◌++◌, Some}
use Rattle.std.proofs.Common.{refl, sym, ap, ◌∙◌, append_assoc, arith, subst}
use Rattle.std.specs.Prelude.{nat_le, ◌&&◌}
use Rattle.std.specs.List.{list_all}
use Rattle.std.proofs.lemmas.List.{append-nil, length-append}
use Rattle.std.proofs.lemmas.Bool.{and_parts, ltb-true, lt-leb}
use Rattle.pct_ask.specs.Words.{is_among}
use Rattle.pct_ask.specs.NameLists.{NameLists, AreDistinct, list_of, place_of, all_names}
use Rattle.pct_ask.specs.declared.names.NameKind.{NameKind}
use Rattle.pct_ask.specs.declared.names.NameKind.TheVariants as kinds
use Rattle.script_tree.specs.Trees.{Statements}
use Rattle.script_tree.specs.ScriptText.{Thread as ThreadTree}
use Rattle.script_tree.specs.Forms as forms
use Rattle.script_tree.specs.Fitting.{line_fits, place_fits, statements_fit, thread_fits}
use Rattle.script_tree.specs.Fitting.{most_threads, counts_of}
use Rattle.pct_ask.specs.TraceText.{name_at}
use Rattle.script_tree.specs.Grammar.{all_thread_lines}
use Rattle.script_parse.specs.Part.{Thread, Open, ReadPart}
use Rattle.script_parse.specs.Reading.{Finder, place_in}
use Rattle.script_parse.proofs.Fresh.{place_at, apart, among_parts, among-append, distinct_back}
use Rattle.script_parse.proofs.Runs.{Runs, body_runs, closed_again}

pub distinct_front : (xs ys : List (List ℕ)) → AreDistinct (xs ++ ys) → AreDistinct xs
distinct_front [] ys h = tt
distinct_front (x ∷ xs) ys h = ((among_parts x xs ys h.0).0, distinct_front xs ys h.1)

module _ (names : NameLists) (distinct : AreDistinct (all_names names)) where
  abbrev others : List (List ℕ)
  others =
      names.vars ++ (names.mutexes ++ (names.conds
      ++ (names.sems ++ (names.barriers ++ names.rwlocks))))

  pub distinct_of : (kind : NameKind) → AreDistinct (list_of kind names)
  distinct_of kinds.Thread = distinct_front names.threads others distinct
  distinct_of kinds.Var = distinct_front names.vars _ (distinct_back names.threads _ distinct)
  distinct_of kinds.Mutex =
      distinct_front names.mutexes _ (distinct_back names.vars _
      (distinct_back names.threads _ distinct))
  distinct_of kinds.Cond =
      distinct_front names.conds _ (distinct_back names.mutexes _
      (distinct_back names.vars _ (distinct_back names.threads _ distinct)))
  distinct_of kinds.Sem =
      distinct_front names.sems _ (distinct_back names.conds _
      (distinct_back names.mutexes _ (distinct_back names.vars _
      (distinct_back names.threads _ distinct))))
  distinct_of kinds.Barrier =
      distinct_front names.barriers names.rwlocks
      (distinct_back names.sems _ (distinct_back names.conds _
      (distinct_back names.mutexes _ (distinct_back names.vars _
      (distinct_back names.threads _ distinct)))))
  distinct_of kinds.RwLock =
      distinct_back names.barriers names.rwlocks
      (distinct_back names.sems _ (distinct_back names.conds _
      (distinct_back names.mutexes _ (distinct_back names.vars _
      (distinct_back names.threads _ distinct)))))

  abbrev find : Finder
  find name = place_of name names.threads

  -- the names with just these threads
  abbrev with_threads : List (List ℕ) → NameLists
  with_threads xs = record names { threads = xs }

  at_its_place : (kind : NameKind) (place : ℕ) → place_fits (list_of kind names) place ≡ true
      → place_of (name_at (list_of kind names) place) (list_of kind names) ≡ Some place
  at_its_place kind place p =
      place_at (list_of kind names) place (distinct_of kind)
      (ltb-true place (length (list_of kind names)) p)

  pub found_at : (xs : List (List ℕ)) (kind : NameKind) (place : ℕ)
      → place_fits (list_of kind names) place ≡ true
      → place_in (with_threads xs) find kind (name_at (list_of kind names) place) ≡ Some place
  found_at xs kinds.Thread place p = at_its_place kinds.Thread place p
  found_at xs kind place p = at_its_place kind place p

  fresh_thread : (xs ys : List (List ℕ)) (name : List ℕ) → xs ++ name ∷ ys ≡ names.threads
      → is_among name (all_names (with_threads xs)) ≡ false
  fresh_thread xs ys name e =
      let whole : AreDistinct (xs ++ name ∷ (ys ++ others)) =
      subst (λ (l : List (List ℕ)). AreDistinct l)
      (ap (λ (l : List (List ℕ)). l ++ others) (sym e) ∙ append_assoc xs (name ∷ ys) others)
      distinct in
      let parts = apart xs (ys ++ others) name whole in
      among-append name xs others parts.0 (among_parts name ys others parts.1).1

  module _ (part : ReadPart) where
    -- what was read with these threads
    abbrev pub having : List (List ℕ) → List ThreadTree → List Open → ReadPart
    having xs done blocks =
        record part { names = with_threads xs; threads = done; open_blocks = blocks }

    pub threads_run : (xs ys : List (List ℕ)) (done more : List ThreadTree)
        → xs ++ ys ≡ names.threads → length more ≡ length ys
        → length names.threads ≤ most_threads part.version
        → list_all (thread_fits part.version names) more ≡ true
        → Runs find (having xs done []) (all_thread_lines names ys more)
        (having names.threads (done ++ more) [])
    threads_run xs [] done [] e same few fit = rw (sym (append-nil xs) ∙ e, append-nil done) refl
    threads_run xs [] done (t ∷ more) e same few fit = absurd (omega (arith, same))
    threads_run xs (name ∷ ys) done [] e same few fit = absurd (omega (arith, same))
    threads_run xs (name ∷ ys) done (t ∷ more) e same few fit =
        let now : List (List ℕ) = xs ++ name ∷ [] in
        let both = and_parts (thread_fits part.version names t)
        (list_all (thread_fits part.version names) more) fit in
        let body : statements_fit part.version names 32 t.body ≡ true =
        (and_parts (line_fits t.line) (statements_fit part.version names 32 t.body)
        (and_parts (line_fits t.line && statements_fit part.version names 32 t.body)
        (nat_le (counts_of t.body) 4096) both.0).0).1 in
        let sum : length xs + suc (length ys) ≡ length names.threads =
        sym (length-append xs (name ∷ ys)) ∙ ap (λ (l : List (List ℕ)). length l) e in (
          record {
            stands = refl;
            known = refl;
            fresh = fresh_thread xs ys name e;
            closes = refl;
            few = lt-leb (most_threads part.version) (length xs) (omega (arith, sum, few));
          },
          body_runs find (having now done []) names part.version (found_at now) t.body
              (Thread t.line) [] [] forms.End (all_thread_lines names ys more)
              (having names.threads (done ++ t ∷ more) []) 32 refl body (
                record { stands = refl; known = refl; fresh = refl; closes = refl; few = refl },
                subst (λ (b : Statements). Runs find
                    (having now (done ++ record { line = t.line; body = b } ∷ []) [])
                    (all_thread_lines names ys more) (having names.threads (done ++ t ∷ more) []))
                    (sym (closed_again t.body))
                    (subst (λ (l : List ThreadTree).
                    Runs find (having now (done ++ t ∷ []) []) (all_thread_lines names ys more)
                    (having names.threads l [])) (append_assoc done (t ∷ []) more)
                    (threads_run now ys (done ++ t ∷ []) more (append_assoc xs (name ∷ []) ys ∙ e)
                    (omega (arith, same)) few both.1)),
              ),
        )

-- One line more keeps what holds of what was read.
use Rattle.std.proofs.Common.{◌≡◌, ℕ, ◌+◌, ◌≤◌, true, length, List, [], ◌∷◌, ◌++◌, refl, sym, ap}
use Rattle.std.proofs.Common.{◌∙◌, append_assoc, arith, subst}
use Rattle.std.proofs.lemmas.List.{append-nil, length_push}
use Rattle.std.proofs.lemmas.List.Elements.{All-push}
use Rattle.std.proofs.lemmas.List.Folds.{list_all-append}
use Rattle.pct_ask.specs.NameLists.{NameLists}
use Rattle.pct_ask.specs.declared.names.NameKind.TheVariants as kinds
use Rattle.script_tree.specs.Trees.{Statement, closed_at}
use Rattle.script_tree.specs.ScriptText.{Thread as ThreadTree}
use Rattle.script_tree.specs.Forms.{Thread, End}
use Rattle.script_tree.specs.Fitting.{line_fits, thread_fits}
use Rattle.script_tree.specs.Grammar.{Line, declares, thread_lines, all_thread_lines}
use Rattle.script_parse.specs.Part.{Open, ReadPart}
use Rattle.script_parse.specs.Part as parts
use Rattle.script_parse.specs.Reading as reading
use Rattle.script_parse.specs.Reading.{with_declared}
use Rattle.script_parse.proofs.StatementFits.{with_threads}
use Rattle.script_parse.proofs.OpenBlocks.{IsOpen, open_lines, open_more, close_thread}
use Rattle.script_parse.proofs.HasRead.{open_names, HaveNames, HaveValues, HasRead, thread_values}

nothing_open : (closed : List (List ℕ)) (blocks : List Open) (current : List ℕ)
    → [] ≡ closed ++ open_names blocks current → (closed ≡ []) × (blocks ≡ [])
nothing_open [] [] current e = (refl, refl)
nothing_open [] (block ∷ blocks) current e = absurd cc
nothing_open (c ∷ cs) blocks current e = absurd cc

none_there : {A : Type 0} (xs : List A) → length xs ≡ 0 → xs ≡ []
none_there [] e = refl
none_there (x ∷ xs) e = absurd (omega arith)

thread_lines_push : (names : NameLists) (closed : List (List ℕ)) (threads : List ThreadTree)
    (name : List ℕ) (thread : ThreadTree) → length threads ≡ length closed
    → all_thread_lines names (closed ++ name ∷ []) (threads ++ thread ∷ [])
    ≡ all_thread_lines names closed threads ++ thread_lines names name thread
thread_lines_push names [] [] name thread e = append-nil (thread_lines names name thread)
thread_lines_push names [] (t ∷ ts) name thread e = absurd (omega arith)
thread_lines_push names (c ∷ cs) [] name thread e = absurd (omega arith)
thread_lines_push names (c ∷ cs) (t ∷ ts) name thread e =
    ap (λ (ls : List Line). thread_lines names c t ++ ls)
    (thread_lines_push names cs ts name thread (omega arith))
    ∙ sym (append_assoc (thread_lines names c t) (all_thread_lines names cs ts)
    (thread_lines names name thread))

module _ (threads : List (List ℕ)) where
  -- a declaration, above the threads
  pub declared_has : (part next : ReadPart) (lines : List Line) (n : ℕ) (line : Line)
      → HasRead threads part lines n → part.names.threads ≡ [] → next.version ≡ part.version
      → HaveNames next → HaveValues next → next.names.threads ≡ [] → next.threads ≡ part.threads
      → next.open_blocks ≡ part.open_blocks → declares line.1 ≡ true
      → HasRead threads next (lines ++ line ∷ []) (n + 1)
  declared_has part next lines n line h none v names values still same_threads same_blocks d =
      let open_ = nothing_open h.closed part.open_blocks h.current (sym none ∙ h.names_are) in
      let no_threads : part.threads ≡ [] =
      none_there part.threads (omega (arith, h.same_threads, ap length open_.0)) in
      let no_body : h.body ≡ [] = h.is_open.lines_are
      ∙ ap (open_lines part.version (with_threads threads part.names) h.current) open_.1 in
      let tops : lines ≡ h.top = h.lines_are ∙ rw (open_.0, no_body) (append-nil h.top) in
      let closed_next : next.open_blocks ≡ [] = same_blocks ∙ open_.1 in
      let next_threads : next.threads ≡ [] = same_threads ∙ no_threads in
      record {
        first_version = rw v h.first_version;
        last_version = rw v h.last_version;
        names = names;
        values = values;
        top = h.top ++ line ∷ [];
        above = All-push (λ line. declares line.1 ≡ true) h.top line h.above d;
        closed = [];
        current = h.current;
        names_are = rw (closed_next, still) refl;
        same_threads = ap length next_threads;
        threads_fit = rw next_threads refl;
        body = [];
        is_open =
            rw closed_next (record {
              fits = refl;
              nested = tt;
              few = omega arith;
              light = omega arith;
              lines_are = refl;
            });
        lines_are = rw tops (sym (append-nil (h.top ++ line ∷ [])));
      }

  -- a thread, outside threads
  pub thread_has : (part : ReadPart) (lines : List Line) (n m : ℕ) (name : List ℕ)
      → HasRead threads part lines n → part.open_blocks ≡ []
      → HaveNames (with_declared part kinds.Thread name) → line_fits m ≡ true
      → HasRead threads (reading.with_block (with_declared part kinds.Thread name) (parts.Thread m))
      (lines ++ (m, Thread name) ∷ []) (n + 1)
  thread_has part lines n m name h none names l =
      let closed_are : part.names.threads ≡ h.closed =
      h.names_are ∙ ap (λ (bs : List Open). h.closed ++ open_names bs h.current) none
      ∙ append-nil h.closed in
      let no_body : h.body ≡ [] = h.is_open.lines_are
      ∙ ap (open_lines part.version (with_threads threads part.names) h.current) none in
      record {
        first_version = h.first_version;
        last_version = h.last_version;
        names = record {
          are_names = names.are_names;
          lawful = names.lawful;
          few_threads = names.few_threads;
          known_rwlocks = names.known_rwlocks;
        };
        values = thread_opened (thread_values part name h.values);
        top = h.top;
        above = h.above;
        closed = h.closed;
        current = name;
        names_are = ap (λ (ns : List (List ℕ)). ns ++ name ∷ []) closed_are;
        same_threads = h.same_threads;
        threads_fit = h.threads_fit;
        body = (m, Thread name) ∷ [];
        is_open =
            rw none (open_more part.version (with_threads threads part.names) [] name [] n
            (parts.Thread m) (m, Thread name)
            (record {
              fits = refl;
              nested = tt;
              few = omega arith;
              light = omega arith;
              lines_are = refl;
            })
            (omega arith) l refl (omega arith) refl);
        lines_are =
            rw (
              h.lines_are,
              no_body,
              append-nil
                  (all_thread_lines (with_threads threads part.names) h.closed part.threads),
            )
            (append_assoc h.top (all_thread_lines (with_threads threads part.names) h.closed
            part.threads) ((m, Thread name) ∷ []));
      }
    where
      thread_opened : HaveValues (with_declared part kinds.Thread name)
          → HaveValues (reading.with_block (with_declared part kinds.Thread name) (parts.Thread m))
      thread_opened v = record {
        same_vars = v.same_vars;
        same_sems = v.same_sems;
        same_barriers = v.same_barriers;
        sem_values = v.sem_values;
        barrier_counts = v.barrier_counts;
      }

  -- a line inside a thread that doesn't close it
  pub inner_has : (part : ReadPart) (blocks : List Open) (block next : Open)
      (outer more : List Open)
      (lines : List Line) (n m : ℕ) (line : Line) (h : HasRead threads part lines n)
      → part.open_blocks ≡ block ∷ outer → blocks ≡ next ∷ more
      → IsOpen part.version (with_threads threads part.names) blocks h.current (h.body ++ line ∷ [])
      m
      → HasRead threads (record part { open_blocks = blocks }) (lines ++ line ∷ []) m
  inner_has part blocks block next outer more lines n m line h e f o = record {
    first_version = h.first_version;
    last_version = h.last_version;
    names = record {
      are_names = h.names.are_names;
      lawful = h.names.lawful;
      few_threads = h.names.few_threads;
      known_rwlocks = h.names.known_rwlocks;
    };
    values = record {
      same_vars = h.values.same_vars;
      same_sems = h.values.same_sems;
      same_barriers = h.values.same_barriers;
      sem_values = h.values.sem_values;
      barrier_counts = h.values.barrier_counts;
    };
    top = h.top;
    above = h.above;
    closed = h.closed;
    current = h.current;
    names_are =
        h.names_are ∙ ap (λ (bs : List Open). h.closed ++ open_names bs h.current) e
        ∙ sym (ap (λ (bs : List Open). h.closed ++ open_names bs h.current) f);
    same_threads = h.same_threads;
    threads_fit = h.threads_fit;
    body = h.body ++ line ∷ [];
    is_open = o;
    lines_are =
        rw h.lines_are (append_assoc h.top
        (all_thread_lines (with_threads threads part.names) h.closed part.threads ++ h.body)
        (line ∷ [])
        ∙ ap (λ (ls : List Line). h.top ++ ls)
        (append_assoc (all_thread_lines (with_threads threads part.names) h.closed part.threads)
        h.body (line ∷ [])));
  }

  -- the end of a thread
  pub closed_has : (part : ReadPart) (line end n : ℕ) (done : List Statement) (lines : List Line)
      → HasRead threads part lines n → part.open_blocks ≡ record {
        opening = parts.Thread line;
        done = done;
      } ∷ [] → line_fits end ≡ true → n ≤ 4096
      → HasRead threads (record part {
        threads = part.threads ++ record {
          line = line;
          body = closed_at end done;
        } ∷ [];
        open_blocks = [];
      })
      (lines ++ (end, End) ∷ []) (n + 1)
  closed_has part line end n done lines h e l few =
      let all : NameLists = with_threads threads part.names in
      let thread : ThreadTree = record { line = line; body = closed_at end done } in
      let c = close_thread part.version (with_threads threads part.names) line done h.current h.body
      n end (subst (λ (bs : List Open).
      IsOpen part.version (with_threads threads part.names) bs h.current h.body n) e h.is_open)
      l few in
      let front : List Line = all_thread_lines (with_threads threads part.names) h.closed
      part.threads in
      record {
        first_version = h.first_version;
        last_version = h.last_version;
        names = record {
          are_names = h.names.are_names;
          lawful = h.names.lawful;
          few_threads = h.names.few_threads;
          known_rwlocks = h.names.known_rwlocks;
        };
        values = record {
          same_vars = h.values.same_vars;
          same_sems = h.values.same_sems;
          same_barriers = h.values.same_barriers;
          sem_values = h.values.sem_values;
          barrier_counts = h.values.barrier_counts;
        };
        top = h.top;
        above = h.above;
        closed = h.closed ++ h.current ∷ [];
        current = h.current;
        names_are =
            h.names_are ∙ ap (λ (bs : List Open). h.closed ++ open_names bs h.current) e
            ∙ sym (append-nil (h.closed ++ h.current ∷ []));
        same_threads =
            omega (
              arith,
              h.same_threads,
              length_push part.threads thread,
              length_push h.closed h.current,
            );
        threads_fit =
            list_all-append (thread_fits part.version (with_threads threads part.names))
            part.threads (thread ∷ []) ∙ rw (h.threads_fit, c.0) refl;
        body = [];
        is_open = record {
          fits = refl;
          nested = tt;
          few = omega arith;
          light = omega arith;
          lines_are = refl;
        };
        lines_are =
            rw (
              h.lines_are,
              thread_lines_push (with_threads threads part.names) h.closed
                  part.threads h.current thread h.same_threads,
              append-nil (front ++ thread_lines (with_threads threads part.names) h.current thread),
            )
            (append_assoc h.top (front ++ h.body) ((end, End) ∷ [])
            ∙ ap (λ (ls : List Line). h.top ++ ls)
            (append_assoc front h.body ((end, End) ∷ [])
            ∙ ap (λ (ls : List Line). front ++ ls) c.1));
      }

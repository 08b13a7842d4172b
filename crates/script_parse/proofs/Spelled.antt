-- A text that is read as a script spells it.
use Rattle.std.proofs.Common.{◌≡◌, ℕ, ◌+◌, ◌≤◌, Bool, true, false, cond, length, List, [], ◌∷◌}
use Rattle.std.proofs.Common.{◌++◌, map, Option, Some, None, Result, Ok, Err, refl, sym, ap, ◌∙◌}
use Rattle.std.proofs.Common.{append_assoc, arith, subst}
use Rattle.std.specs.Prelude.{nat_lt, unwrap_or}
use Rattle.std.specs.List.{list_all}
use Rattle.std.proofs.lemmas.List.{append-nil, map_push, map-append, length_push}
use Rattle.std.proofs.lemmas.List.Sums.{AllPass-from_list_all}
use Rattle.std.proofs.lemmas.List.Elements.{All-nil, filter_map-append}
use Rattle.std.proofs.lemmas.List.Folds.{list_all-append}
use Rattle.std.proofs.lemmas.Bool.{and_parts, ltb-false, le-leb}
use Rattle.pct_ask.specs.Lines.{lines_of}
use Rattle.pct_ask.specs.Tokens.{Token, Word, Number, tokens_of}
use Rattle.pct_ask.specs.Words.{is_name}
use Rattle.pct_ask.specs.NameLists.{NameLists, list_of, all_names}
use Rattle.pct_ask.specs.declared.names.NameKind.{NameKind}
use Rattle.pct_ask.specs.declared.names.NameKind.TheVariants as kinds
use Rattle.script_tree.specs.ScriptText.{ScriptText}
use Rattle.script_tree.specs.declared.fault.ScriptFault.TheVariants as fault
use Rattle.script_tree.specs.Fitting.{thread_fits}
use Rattle.script_tree.specs.Lines.{tokens_in, is_blank_line, is_nothing, version_in, names_of}
use Rattle.script_tree.specs.Lines.{declared_name, depth, threads_begun}
use Rattle.script_tree.specs.Faults as faults
use Rattle.script_tree.specs.Faults.{are_blank}
use Rattle.script_tree.specs.Grammar.{AreLines, Spells, all_thread_lines}
use Rattle.script_parse.specs.Part.{Open, ReadPart}
use Rattle.script_parse.specs.Reading.{is_empty, line_taken, then_read, script_from, read_as_script}
use Rattle.script_parse.specs.Reading.{script_of, blank_text_fault}
use Rattle.script_parse.proofs.Standing.{Lines, Stands, depth_is}
use Rattle.script_parse.proofs.Agreeing.{leaves_open_same, few_ended, lacks_thread_same}
use Rattle.script_parse.proofs.LineSteps.{AfterLine}
use Rattle.script_parse.proofs.Headers.{quiet_none}
use Rattle.script_parse.proofs.TextFaults.{Found, TellsFault, StandsBefore, ok_is, err_ok}
use Rattle.script_parse.proofs.TextFaults.{line_next, all_tell, finder_of, at_place, none_at_first}
use Rattle.script_parse.proofs.StatementFits.{finder, with_threads}
use Rattle.script_parse.proofs.OpenBlocks.{open_lines}
use Rattle.script_parse.proofs.HasRead.{open_names}
use Rattle.script_parse.proofs.SoundText.{Reads, ReadsBefore, line_reads}

-- what was read of all lines
record IsReached (lines : List (List ℕ)) (script : ScriptText) : Type 0 where
  part : ReadPart
  script_is : script_of part ≡ script
  reads : Reads (threads_begun lines) part lines
  stands : Stands part (map tokens_in lines)

reached : (rest lines before : List (List ℕ)) (state : Option ReadPart) (n : ℕ)
    (script : ScriptText)
    → n ≡ length before + 1 → lines ≡ before ++ rest
    → ReadsBefore (threads_begun lines) state before → StandsBefore state before
    → script_from (finder (threads_begun lines)) state n rest ≡ Ok script → IsReached lines script
reached [] lines before None n script count e r s f = err_ok f
reached [] lines before (Some part) n script count e r s f =
    let same : before ≡ lines = sym (append-nil before) ∙ sym e in
    record {
      part = part;
      script_is = ok_is f;
      reads = subst (Reads (threads_begun lines) part) same r;
      stands = subst (λ (ls : List (List ℕ)). Stands part (map tokens_in ls)) same s.1;
    }
reached (line ∷ rest) lines before state n script count e r s f =
    by_step (line_taken state (finder (threads_begun lines)) n (is_empty rest) line) refl f
    (λ next t g. reached rest lines (before ++ line ∷ []) next (n + 1) script
    (omega (arith, count, length_push before line))
    (e ∙ sym (append_assoc before (line ∷ []) rest))
    (line_reads (threads_begun lines) state (is_empty rest) before line next r
    (subst (λ (m : ℕ). line_taken state (finder (threads_begun lines)) m (is_empty rest)
    line ≡ Ok next) count t))
    (line_next state (finder (threads_begun lines)) n (is_empty rest) before line next s t) g)
  where
    by_step : (result : AfterLine) → line_taken state (finder (threads_begun lines)) n
        (is_empty rest) line ≡ result → then_read n result
        (λ next. script_from (finder (threads_begun lines)) next (n + 1) rest) ≡ Ok script
        → ((next : Option ReadPart) → line_taken state (finder (threads_begun lines)) n
        (is_empty rest) line ≡ Ok next
        → script_from (finder (threads_begun lines)) next (n + 1) rest ≡ Ok script
        → IsReached lines script) → IsReached lines script
    by_step (Err kind) t g go = err_ok g
    by_step (Ok next) t g go = go next t g

-- ---- the last line

record HasLast (lines : List (List ℕ)) : Type 0 where
  front : List (List ℕ)
  last : List ℕ
  cut : lines ≡ front ++ last ∷ []

last_of : (line : List ℕ) (lines : List (List ℕ)) → HasLast (line ∷ lines)
last_of line [] = record { front = []; last = line; cut = refl }
last_of line (next ∷ more) = let l = last_of next more in
    record {
      front = line ∷ l.front;
      last = l.last;
      cut = ap (λ (ls : List (List ℕ)). line ∷ ls) l.cut;
    }

has_last : (above below : List (List ℕ)) (header : List ℕ) → HasLast (above ++ header ∷ below)
has_last [] below header = last_of header below
has_last (line ∷ above) below header = let l = has_last above below header in
    record {
      front = line ∷ l.front;
      last = l.last;
      cut = ap (λ (ls : List (List ℕ)). line ∷ ls) l.cut;
    }

none_left : {A : Type 0} (xs : List A) → (1 ≤ length xs → ⊥) → xs ≡ []
none_left [] h = refl
none_left (x ∷ xs) h = absurd (h (omega arith))

some_left : {A : Type 0} (xs : List A) → (xs ≡ [] → ⊥) → 1 ≤ length xs
some_left [] h = absurd (h refl)
some_left (x ∷ xs) h = omega arith

-- ---- names

blank_names : (above : List (List ℕ)) (kind : NameKind) → are_blank above ≡ true
    → names_of kind (map tokens_in above) ≡ []
blank_names [] kind b = refl
blank_names (line ∷ above) kind b =
    let p = and_parts (is_blank_line line) (are_blank above) b in
    rw (blank_tokens line p.0) (blank_names above kind p.1)
  where
    blank_tokens : (line : List ℕ) → is_blank_line line ≡ true → tokens_in line ≡ []
    blank_tokens line b = by_tokens (tokens_of line) b
      where
        by_tokens : (o : Option (List Token)) → is_nothing o ≡ true → unwrap_or o [] ≡ []
        by_tokens None b = refl
        by_tokens (Some []) b = refl
        by_tokens (Some (token ∷ tokens)) b = absurd cc

header_nameless : (tokens : List Token) (version : ℕ) (kind : NameKind)
    → version_in tokens ≡ Some version → declared_name kind tokens ≡ None
header_nameless (Word word ∷ Number (digit ∷ []) ∷ []) version kind e = refl
header_nameless tokens version kind e = absurd cc

below_names : (above below : List (List ℕ)) (header : List ℕ) (version : ℕ) (kind : NameKind)
    → are_blank above ≡ true → version_in (tokens_in header) ≡ Some version
    → names_of kind (map tokens_in (above ++ header ∷ below)) ≡ names_of kind (map tokens_in below)
below_names above below header version kind b v =
    ap (names_of kind) (map-append tokens_in above (header ∷ below))
    ∙ filter_map-append (declared_name kind) (map tokens_in above)
    (map tokens_in (header ∷ below))
    ∙ rw (blank_names above kind b, header_nameless (tokens_in header) version kind v) refl

all_lawful : (version : ℕ) (names : NameLists)
    → ((kind : NameKind) → list_all (is_name version) (list_of kind names) ≡ true)
    → list_all (is_name version) (all_names names) ≡ true
all_lawful version names h =
    let p = is_name version in
    list_all-append (is_name version) names.threads _
    ∙ rw (h kinds.Thread) (list_all-append (is_name version) names.vars _
    ∙ rw (h kinds.Var) (list_all-append (is_name version) names.mutexes _ ∙ rw (h kinds.Mutex)
    (list_all-append (is_name version) names.conds _
    ∙ rw (h kinds.Cond) (list_all-append (is_name version) names.sems _
    ∙ rw (h kinds.Sem) (list_all-append (is_name version) names.barriers names.rwlocks
    ∙ rw (h kinds.Barrier, h kinds.RwLock) refl)))))

-- ---- the script

same_threads : (threads : List (List ℕ)) (names : NameLists) → threads ≡ names.threads
    → with_threads threads names ≡ names
same_threads threads names e = ap (λ (ts : List (List ℕ)). with_threads ts names) e

record IsEnded (part : ReadPart) : Type 0 where
  closed : part.open_blocks ≡ []
  some_thread : 1 ≤ length part.names.threads

ended : (lines : List (List ℕ)) (part : ReadPart) → HasLast lines
    → Stands part (map tokens_in lines)
    → TellsFault (Ok (script_of part)) lines → IsEnded part
ended lines part l s t =
    let behind : map tokens_in lines ≡ map tokens_in l.front ++ tokens_in l.last ∷ [] =
    ap (map tokens_in) l.cut ∙ map_push tokens_in l.front l.last in
    let no_end : ¬ faults.NoEnd (at_place l.front l.last []) =
    t l.front [] l.last l.cut fault.NoEnd in
    let no_thread : ¬ faults.NoThread (at_place l.front l.last []) =
    t l.front [] l.last l.cut fault.NoThread in
    let front : Lines = map tokens_in l.front in
    let line : List Token = tokens_in l.last in
    let deep : depth (front ++ line ∷ []) ≡ length part.open_blocks =
    ap depth (sym behind) ∙ depth_is part (map tokens_in lines) s in
    let same_names : names_of kinds.Thread (front ++ line ∷ []) ≡ part.names.threads =
    ap (names_of kinds.Thread) (sym behind) ∙ s.names kinds.Thread in
    record {
      closed = none_left part.open_blocks (λ h.
          let open_ : 1 ≤ depth (front ++ line ∷ []) = omega (arith, deep, h) in
          no_end (
            refl,
            sym (leaves_open_same front line (few_ended front line open_))
                ∙ le-leb 1 _ open_,
          ));
      some_thread = some_left part.names.threads (λ h.
          no_thread (refl, sym (lacks_thread_same front line) ∙ ap is_empty (same_names ∙ h)));
    }

spelled_part : (bytes : List ℕ) (part : ReadPart) → length bytes ≤ 1048576
    → Reads (threads_begun (lines_of bytes)) part (lines_of bytes)
    → Stands part (map tokens_in (lines_of bytes)) → IsEnded part → Spells bytes (script_of part)
spelled_part bytes part small r s e =
    let h = r.has in
    let T : List (List ℕ) = threads_begun (lines_of bytes) in
    let names : with_threads (threads_begun (lines_of bytes)) part.names ≡ part.names =
    same_threads (threads_begun (lines_of bytes)) part.names r.promised in
    let closed : part.names.threads ≡ h.closed =
    h.names_are ∙ ap (λ (bs : List Open). h.closed ++ open_names bs h.current) e.closed
    ∙ append-nil h.closed in
    let no_body : h.body ≡ [] = h.is_open.lines_are
    ∙ ap (open_lines part.version (with_threads (threads_begun (lines_of bytes)) part.names)
    h.current) e.closed in
    let lines_are : r.lines ≡ h.top ++ all_thread_lines part.names part.names.threads part.threads =
    h.lines_are ∙ rw (
      no_body,
      append-nil
          (all_thread_lines (with_threads (threads_begun (lines_of bytes)) part.names) h.closed
          part.threads),
    )
    (ap (λ (ns : NameLists). h.top ++ all_thread_lines ns h.closed part.threads) names
    ∙ ap (λ (ns : List (List ℕ)). h.top ++ all_thread_lines part.names ns part.threads)
    (sym closed)) in
    let fits : list_all (thread_fits part.version part.names) part.threads ≡ true =
    subst (λ (ns : NameLists). list_all (thread_fits part.version ns) part.threads ≡ true) names
    h.threads_fit in
    let same : length part.threads ≡ length part.names.threads =
    h.same_threads ∙ ap length (sym closed) in
    record {
      small = small;
      few_lines = r.few;
      sound = r.sound;
      above = r.above;
      header = r.header;
      below = r.below;
      split = r.split;
      blank = AllPass-from_list_all is_blank_line r.above r.blank;
      version = r.version;
      top = h.top;
      above_threads = h.above;
      lines = subst (AreLines part.version (length r.above + 2) r.below) lines_are r.are_lines;
      names_are =
          λ kind. sym (below_names r.above r.below r.header part.version kind r.blank r.version)
          ∙ ap (λ (ls : List (List ℕ)). names_of kind (map tokens_in ls)) (sym r.split)
          ∙ s.names kind;
      vars = r.values.vars;
      sems = r.values.sems;
      barriers = r.values.barriers;
      names = h.names.are_names;
      fits = record {
        first_version = h.first_version;
        last_version = h.last_version;
        lawful_names = all_lawful part.version part.names h.names.lawful;
        same_vars = h.values.same_vars;
        same_sems = h.values.same_sems;
        same_barriers = h.values.same_barriers;
        same_threads = same;
        some_thread = omega (arith, same, e.some_thread);
        few_threads = omega (arith, same, h.names.few_threads);
        known_rwlocks = h.names.known_rwlocks;
        sem_values = h.values.sem_values;
        barrier_counts = h.values.barrier_counts;
        threads_fit = fits;
      };
    }

spelled_lines : (bytes : List ℕ) (script : ScriptText) → length bytes ≤ 1048576
    → are_blank (lines_of bytes) ≡ false
    → script_from (finder (threads_begun (lines_of bytes))) None 1 (lines_of bytes)
    ≡ Ok script → Spells bytes script
spelled_lines bytes script small says e =
    let lines : List (List ℕ) = lines_of bytes in
    let r = reached (lines_of bytes) (lines_of bytes) [] None 1 script refl refl
    (record { blank = refl; promised = refl; sound = All-nil _ }) (refl, quiet_none) e in
    let tells : TellsFault (script_from (finder_of (lines_of bytes)) None 1 (lines_of bytes))
    (lines_of bytes) = all_tell (lines_of bytes) (lines_of bytes) [] None 1 refl refl says
    (refl, quiet_none) (none_at_first (lines_of bytes)) in
    let none : TellsFault (Ok (script_of r.part)) (lines_of bytes) =
    subst (λ (f : Found). TellsFault f (lines_of bytes)) (e ∙ ap ok (sym r.script_is)) tells in
    let last : HasLast (lines_of bytes) =
    subst HasLast (sym r.reads.split) (has_last r.reads.above r.reads.below r.reads.header) in
    subst (Spells bytes) r.script_is (spelled_part bytes r.part small r.reads r.stands
    (ended (lines_of bytes) r.part last r.stands none))
  where
    ok : ScriptText → Found
    ok s = Ok s

not_err : {A E P : Type 0} {x : E} {y : A} → ◌≡◌ {A = Result A E} (Err x) (Ok y) → P
not_err e = absurd cc

-- a text that is read as a script spells it
pub read_is_spelled : (bytes : List ℕ) (script : ScriptText)
    → read_as_script bytes ≡ Ok script → Spells bytes script
read_is_spelled bytes script e = by_size (nat_lt 1048576 (length bytes)) refl e
  where
    by_blank : (b : Bool) → are_blank (lines_of bytes) ≡ b → length bytes ≤ 1048576
        → cond b (Err (1, blank_text_fault (lines_of bytes)))
        (script_from (finder (threads_begun (lines_of bytes))) None 1 (lines_of bytes))
        ≡ Ok script → Spells bytes script
    by_blank true h small f = not_err f
    by_blank false h small f = spelled_lines bytes script small h f

    by_size : (b : Bool) → nat_lt 1048576 (length bytes) ≡ b
        → cond b (Err (1, fault.TooMany))
        (cond (are_blank (lines_of bytes)) (Err (1, blank_text_fault (lines_of bytes)))
        (script_from (finder (threads_begun (lines_of bytes))) None 1 (lines_of bytes)))
        ≡ Ok script → Spells bytes script
    by_size true h f = not_err f
    by_size false h f =
        by_blank (are_blank (lines_of bytes)) refl (ltb-false 1048576 (length bytes) h) f

-- The canonical layout of a script spells the script with its lines' numbers there.
use Rattle.std.proofs.Common.{◌≡◌, ℕ, suc, ◌+◌, ◌<◌, ◌≤◌, ◌^◌, true, List, [], ◌∷◌, ◌++◌, length}
use Rattle.std.proofs.Common.{length-append, map, Some, inl, inr, refl, sym, ap, ◌∙◌, subst, All}
use Rattle.std.proofs.Common.{arith}
use Rattle.std.specs.Prelude.{ℤ, pos, negsuc, neg_ℤ, ◌≤ℤ◌, ◌&&◌, nat_le, nat_lt, decimal}
use Rattle.std.specs.Prelude.{FitsSigned}
use Rattle.std.specs.Int.{w64}
use Rattle.std.specs.List.{list_all, flat_map}
use Rattle.std.specs.Str.Parse.{digits_value}
use Rattle.std.proofs.lemmas.List.{append-nil}
use Rattle.std.proofs.lemmas.List.Elements.{All-nil, All-cons, All-head, All-tail}
use Rattle.std.proofs.lemmas.Bool.{and_parts, and_from, or_cases, leb-true, le-leb, lt-ltb}
use Rattle.std.proofs.lemmas.Int.{ints}
use Rattle.pct_ask.specs.Lines.{lines_of}
use Rattle.pct_ask.specs.Ranges.{IsSemValue, IsBarrierCount}
use Rattle.pct_ask.specs.Words.{is_name}
use Rattle.pct_ask.specs.Tokens.{Number}
use Rattle.pct_ask.specs.NameLists.{NameLists, AreNames, all_names, list_of}
use Rattle.pct_ask.specs.declared.names.NameKind.{NameKind}
use Rattle.pct_ask.specs.declared.names.NameKind.TheVariants as kinds
use Rattle.script_tree.specs.ScriptText.{ScriptText, Thread}
use Rattle.script_tree.specs.Forms.{MeantForm, kind_since, has_value, is_plain, value_in}
use Rattle.script_tree.specs.Fitting.{IsScript, thread_fits, rwlocks_fit}
use Rattle.script_tree.specs.Lines.{names_of, values_of}
use Rattle.script_tree.specs.Grammar.{Line, declares, thread_lines, all_thread_lines, AreLines}
use Rattle.script_tree.specs.Grammar.{IsLineText, Spells}
use Rattle.script_tree.specs.Layout.{token_text, form_text, value_tokens, plain_forms, valued_forms}
use Rattle.script_tree.specs.Layout.{declared_forms, meanings, forms_of, header_text, layout}
use Rattle.script_tree.specs.Printing.{are_ranged}
use Rattle.script_tree.specs.Renumbering.{renumbered_script, renumbered_threads, IsShort}
use Rattle.script_tree.proofs.Cuts.{IsCut, minus_cut}
use Rattle.script_tree.proofs.ExpressionCuts.{decimal_cut, decimal_value}
use Rattle.script_tree.proofs.FormCuts.{IsGoodValue}
use Rattle.script_tree.proofs.laws.PlainLines.{ArePlain, lines_of_text}
use Rattle.script_tree.proofs.PrintedLines.{numbered, numbered-append, AreFit, AreFit-append}
use Rattle.script_tree.proofs.PrintedLines.{are_lines, forms_are_plain, IsShortLine, all_sound}
use Rattle.script_tree.proofs.PrintedLines.{is_header}
use Rattle.script_tree.proofs.InnerLines.{are_ranged-parts, lawful_kind, thread_inner, threads_fit}
use Rattle.script_tree.proofs.Renumbered.{threads_numbered, renumbered_length, threads_refit}
use Rattle.script_tree.proofs.NamesPrinted.{tokens_are, ThreadsInner, AreRead, names_are, vars_are}
use Rattle.script_tree.proofs.NamesPrinted.{sems_are, barriers_are}

-- ---- first values

number_cut : (n : ℕ) → n < 2 ^ 64 → IsCut (flat_map token_text (Number (decimal n) ∷ []))
    (Number (decimal n) ∷ [])
number_cut n small =
    subst (λ text. IsCut text (Number (decimal n) ∷ [])) (sym (append-nil (decimal n)))
    (decimal_cut n small)

-- a value that is read back, and in range
record IsPrinted (kind : NameKind) (value : ℤ) : Type 0 where
  good : IsGoodValue kind (value_tokens value)
  read : value_in kind (value_tokens value) ≡ Some value

var_printed : (value : ℤ) → FitsSigned w64 value → IsPrinted kinds.Var value
var_printed (pos n) fits =
    let low : n < 2 ^ 63 = fits.sfits in
    let small : n < 2 ^ 64 = omega arith in
    let same : digits_value 10 (decimal n) ≡ n = decimal_value n small in
    record {
      good = record {
        cut = number_cut n small;
        read = refl;
        fits = ap (λ v. nat_lt v (2 ^ 63)) same ∙ lt-ltb n (2 ^ 63) low;
      };
      read = ap (λ v. Some (pos v)) same;
    }
var_printed (negsuc n) fits =
    let low : n < 2 ^ 63 = fits.sfits in
    let small : suc n < 2 ^ 64 = omega arith in
    let same : digits_value 10 (decimal (suc n)) ≡ suc n = decimal_value (suc n) small in
    record {
      good = record {
        cut =
            minus_cut (flat_map token_text (Number (decimal (suc n)) ∷ []))
            (Number (decimal (suc n)) ∷ []) (number_cut (suc n) small);
        read = refl;
        fits = ap (λ v. nat_le v (2 ^ 63)) same ∙ le-leb (suc n) (2 ^ 63) (omega arith);
      };
      read = ap (λ v. Some (neg_ℤ (pos v))) same;
    }

sem_printed : (value : ℤ) → IsSemValue value → IsPrinted kinds.Sem value
sem_printed (pos n) fits =
    let above : pos n ≤ℤ pos 2147483647 = fits.1 in
    let high : n ≤ 2147483647 = omega (arith, ints) in
    let small : n < 2 ^ 64 = omega arith in
    let same : digits_value 10 (decimal n) ≡ n = decimal_value n small in
    record {
      good = record {
        cut = number_cut n small;
        read = refl;
        fits = ap (λ v. nat_le v 2147483647) same ∙ le-leb n 2147483647 high;
      };
      read = ap (λ v. Some (pos v)) same;
    }
sem_printed (negsuc n) fits = absurd fits.0.le

barrier_printed : (value : ℤ) → IsBarrierCount value → IsPrinted kinds.Barrier value
barrier_printed (pos n) fits =
    let below_it : pos 1 ≤ℤ pos n = fits.0 in
    let above : pos n ≤ℤ pos 1000 = fits.1 in
    let low : 1 ≤ n = omega (arith, ints) in
    let high : n ≤ 1000 = omega (arith, ints) in
    let small : n < 2 ^ 64 = omega arith in
    let same : digits_value 10 (decimal n) ≡ n = decimal_value n small in
    record {
      good = record {
        cut = number_cut n small;
        read = refl;
        fits = ap (λ v. nat_le 1 v && nat_le v 1000) same
            ∙ and_from (nat_le 1 n) (nat_le n 1000) (le-leb 1 n low) (le-leb n 1000 high);
      };
      read = ap (λ v. Some (pos v)) same;
    }
barrier_printed (negsuc n) fits = absurd fits.0.le

-- all values of a kind
abbrev ArePrinted : NameKind → List ℤ → Type 0
ArePrinted kind [] = Unit {0}
ArePrinted kind (v ∷ vs) = IsPrinted kind v × ArePrinted kind vs

all_printed : (kind : NameKind) (P : ℤ → Type 0) → ((v : ℤ) → P v → IsPrinted kind v)
    → (values : List ℤ) → All P values → ArePrinted kind values
all_printed kind P printed [] all = tt
all_printed kind P printed (v ∷ vs) all =
    (printed v (All-head P v vs all), all_printed kind P printed vs (All-tail P v vs all))

are_read : (kind : NameKind) (values : List ℤ) → ArePrinted kind values → AreRead kind values
are_read kind [] printed = tt
are_read kind (v ∷ vs) printed = (printed.0.read, are_read kind vs printed.1)

-- ---- declarations

valued_fit : (version : ℕ) (kind : NameKind) (names : List (List ℕ)) (values : List ℤ)
    → has_value kind ≡ true → list_all (is_name version) names ≡ true → ArePrinted kind values
    → AreFit version (valued_forms kind names values)
valued_fit version kind [] values has lawful printed = tt
valued_fit version kind (n ∷ ns) [] has lawful printed = tt
valued_fit version kind (n ∷ ns) (v ∷ vs) has lawful printed =
    let both = and_parts (is_name version n) (list_all (is_name version) ns) lawful in
    ((has, both.0, printed.0.good), valued_fit version kind ns vs has both.1 printed.1)

plain_fit : (version : ℕ) (kind : NameKind) (names : List (List ℕ)) → is_plain kind ≡ true
    → kind_since kind ≤ version → list_all (is_name version) names ≡ true
    → AreFit version (plain_forms kind names)
plain_fit version kind [] plain since lawful = tt
plain_fit version kind (n ∷ ns) plain since lawful =
    let both = and_parts (is_name version n) (list_all (is_name version) ns) lawful in
    ((plain, since, both.0), plain_fit version kind ns plain since both.1)

rwlocks_are_fit : (version : ℕ) (names : List (List ℕ)) → rwlocks_fit version names ≡ true
    → list_all (is_name version) names ≡ true → AreFit version (plain_forms kinds.RwLock names)
rwlocks_are_fit version [] known lawful = tt
rwlocks_are_fit version (n ∷ ns) known lawful =
    let third : 3 ≤ version = elim (or_cases (nat_le 3 version) (nat_le (length (n ∷ ns)) 0)
    known) [
      | inl h ↦ leb-true 3 version h
      | inr h ↦ absurd (omega (arith, leb-true (length (n ∷ ns)) 0 h))
    ] in
    plain_fit version kinds.RwLock (n ∷ ns) refl third lawful

valued_declare : (kind : NameKind) (names : List (List ℕ)) (values : List ℤ)
    → list_all declares (valued_forms kind names values) ≡ true
valued_declare kind [] values = refl
valued_declare kind (n ∷ ns) [] = refl
valued_declare kind (n ∷ ns) (v ∷ vs) = valued_declare kind ns vs

plain_declare : (kind : NameKind) (names : List (List ℕ))
    → list_all declares (plain_forms kind names) ≡ true
plain_declare kind [] = refl
plain_declare kind (n ∷ ns) = plain_declare kind ns

declare-append : (a b : List MeantForm) → list_all declares a ≡ true → list_all declares b ≡ true
    → list_all declares (a ++ b) ≡ true
declare-append [] b in_a in_b = in_b
declare-append (m ∷ a) b in_a in_b =
    let both = and_parts (declares m) (list_all declares a) in_a in
    and_from (declares m) (list_all declares (a ++ b)) both.0 (declare-append a b both.1 in_b)

abbrev Declares : Line → Type 0
Declares line = declares line.1 ≡ true

all_declare : (n : ℕ) (ms : List MeantForm) → list_all declares ms ≡ true
    → All Declares (numbered n ms)
all_declare n [] h = All-nil Declares
all_declare n (m ∷ ms) h =
    let both = and_parts (declares m) (list_all declares ms) h in
    All-cons Declares (n, m) (numbered (n + 1) ms) both.0 (all_declare (n + 1) ms both.1)

-- ---- threads

module _ (version : ℕ) (names : NameLists) (first : 1 ≤ version)
    (lawful : list_all (is_name version) (all_names names) ≡ true) where
  threads_inner : (ns : List (List ℕ)) (ts : List Thread) → length ts ≡ length ns
      → list_all (thread_fits version names) ts ≡ true
      → are_ranged (all_thread_lines names ns ts) ≡ true → ThreadsInner version names ts
  threads_inner ns [] same fits ranged = tt
  threads_inner [] (t ∷ ts) same fits ranged = absurd (omega arith)
  threads_inner (n ∷ ns) (t ∷ ts) same fits ranged =
      let both = and_parts (thread_fits version names t) (list_all (thread_fits version names) ts)
      fits in
      let in_range = are_ranged-parts (thread_lines names n t) (all_thread_lines names ns ts)
      ranged in (
        thread_inner version names first lawful t both.0 in_range.0,
        threads_inner ns ts (omega arith) both.1 in_range.1,
      )

-- ---- the whole text

module _ (script : ScriptText) (is : IsScript script) (names : AreNames script.names)
    (vars : All (FitsSigned w64) script.vars)
    (ranged : are_ranged (all_thread_lines script.names script.names.threads script.threads)
    ≡ true) where
  abbrev N : NameLists
  N = script.names

  abbrev D : List MeantForm
  D = declared_forms script

  abbrev L : List Line
  L = all_thread_lines script.names script.names.threads script.threads

  lawful_of : (kind : NameKind) → list_all (is_name script.version) (list_of kind script.names)
      ≡ true
  lawful_of kind = lawful_kind (is_name script.version) script.names kind is.lawful_names

  vars_printed : ArePrinted kinds.Var script.vars
  vars_printed = all_printed kinds.Var (FitsSigned w64) var_printed script.vars vars

  sems_printed : ArePrinted kinds.Sem script.sems
  sems_printed = all_printed kinds.Sem IsSemValue sem_printed script.sems is.sem_values

  barriers_printed : ArePrinted kinds.Barrier script.barriers
  barriers_printed =
      all_printed kinds.Barrier IsBarrierCount barrier_printed script.barriers is.barrier_counts

  abbrev var_forms : List MeantForm
  var_forms = valued_forms kinds.Var N.vars script.vars

  abbrev mutex_forms : List MeantForm
  mutex_forms = plain_forms kinds.Mutex N.mutexes

  abbrev cond_forms : List MeantForm
  cond_forms = plain_forms kinds.Cond N.conds

  abbrev sem_forms : List MeantForm
  sem_forms = valued_forms kinds.Sem N.sems script.sems

  abbrev barrier_forms : List MeantForm
  barrier_forms = valued_forms kinds.Barrier N.barriers script.barriers

  abbrev rwlock_forms : List MeantForm
  rwlock_forms = plain_forms kinds.RwLock N.rwlocks

  declared_fit : AreFit script.version D
  declared_fit =
      let v = script.version in
      AreFit-append v var_forms (mutex_forms
      ++ (cond_forms ++ (sem_forms ++ (barrier_forms ++ rwlock_forms))))
      (valued_fit v kinds.Var N.vars script.vars refl (lawful_of kinds.Var) vars_printed)
      (AreFit-append v mutex_forms (cond_forms ++ (sem_forms ++ (barrier_forms ++ rwlock_forms)))
      (plain_fit v kinds.Mutex N.mutexes refl is.first_version (lawful_of kinds.Mutex))
      (AreFit-append v cond_forms (sem_forms ++ (barrier_forms ++ rwlock_forms))
      (plain_fit v kinds.Cond N.conds refl is.first_version (lawful_of kinds.Cond))
      (AreFit-append v sem_forms (barrier_forms ++ rwlock_forms)
      (valued_fit v kinds.Sem N.sems script.sems refl (lawful_of kinds.Sem) sems_printed)
      (AreFit-append v barrier_forms rwlock_forms
      (valued_fit v kinds.Barrier N.barriers script.barriers refl (lawful_of kinds.Barrier)
      barriers_printed)
      (rwlocks_are_fit v N.rwlocks is.known_rwlocks (lawful_of kinds.RwLock))))))

  declared_declare : list_all declares D ≡ true
  declared_declare =
      declare-append var_forms (mutex_forms
      ++ (cond_forms ++ (sem_forms ++ (barrier_forms ++ rwlock_forms))))
      (valued_declare kinds.Var N.vars script.vars)
      (declare-append mutex_forms (cond_forms ++ (sem_forms ++ (barrier_forms ++ rwlock_forms)))
      (plain_declare kinds.Mutex N.mutexes)
      (declare-append cond_forms (sem_forms ++ (barrier_forms ++ rwlock_forms))
      (plain_declare kinds.Cond N.conds)
      (declare-append sem_forms (barrier_forms ++ rwlock_forms)
      (valued_declare kinds.Sem N.sems script.sems)
      (declare-append barrier_forms rwlock_forms
      (valued_declare kinds.Barrier N.barriers script.barriers)
      (plain_declare kinds.RwLock N.rwlocks)))))

  all_fit : AreFit script.version (forms_of script)
  all_fit =
      AreFit-append script.version D (meanings L) declared_fit
      (threads_fit script.version N is.first_version is.lawful_names N.threads script.threads
      (lawful_of kinds.Thread) is.threads_fit ranged)

  inner : ThreadsInner script.version N script.threads
  inner =
      threads_inner script.version N is.first_version is.lawful_names N.threads script.threads
      is.same_threads is.threads_fit ranged

  -- the lines below the header
  abbrev below : List (List ℕ)
  below = map form_text (forms_of script)

  plain : ArePlain (header_text script.version ∷ below)
  plain = (
    (is_header script.version is.first_version is.last_version).plain,
    forms_are_plain script.version (forms_of script) all_fit,
  )

  lines_are : lines_of (layout script) ≡ header_text script.version ∷ below
  lines_are = lines_of_text (header_text script.version ∷ below) plain

  abbrev renumbered_lines : List Line
  renumbered_lines =
      all_thread_lines script.names script.names.threads (renumbered_script script).threads

  numbered_lines : numbered 2 (forms_of script) ≡ numbered 2 D ++ renumbered_lines
  numbered_lines =
      numbered-append 2 D (meanings L)
      ∙ ap (λ lines. numbered 2 D ++ lines)
      (sym (threads_numbered N (2 + length D) N.threads script.threads))

  length-meanings : (lines : List Line) → length (meanings lines) ≡ length lines
  length-meanings [] = refl
  length-meanings (line ∷ lines) = omega (arith, length-meanings lines)

  length-map : (ms : List MeantForm) → length (map form_text ms) ≡ length ms
  length-map [] = refl
  length-map (m ∷ ms) = omega (arith, length-map ms)

  refit : IsShort (layout script) → IsScript (renumbered_script script)
  refit short =
      let count : length (header_text script.version ∷ below) ≤ 4096 =
      subst (λ lines. length lines ≤ 4096) lines_are short.few_lines in
      let high : 2 + length D + length L ≤ 4097 =
      omega (
        arith,
        length-map (forms_of script),
        length-append D (meanings L),
        length-meanings L,
      ) in
      let same : length (renumbered_threads (2 + length D) script.threads) ≡ length script.threads =
      renumbered_length (2 + length D) script.threads in
      record {
        first_version = is.first_version;
        last_version = is.last_version;
        lawful_names = is.lawful_names;
        same_vars = is.same_vars;
        same_sems = is.same_sems;
        same_barriers = is.same_barriers;
        same_threads = same ∙ is.same_threads;
        some_thread = omega (arith, same, is.some_thread);
        few_threads = omega (arith, same, is.few_threads);
        known_rwlocks = is.known_rwlocks;
        sem_values = is.sem_values;
        barrier_counts = is.barrier_counts;
        threads_fit =
            threads_refit script.version N (2 + length D) N.threads script.threads is.same_threads
            is.threads_fit (omega arith) high;
      }

  pub layout_spells : IsShort (layout script) → Spells (layout script) (renumbered_script script)
  layout_spells short = record {
    small = short.small;
    few_lines = short.few_lines;
    sound =
        subst (All IsLineText) (sym lines_are)
        (all_sound (header_text script.version ∷ below) plain
        (subst (All IsShortLine) lines_are short.short_lines));
    above = [];
    header = header_text script.version;
    below = below;
    split = lines_are;
    blank = All-nil _;
    version = (is_header script.version is.first_version is.last_version).tells;
    top = numbered 2 D;
    above_threads = all_declare 2 D declared_declare;
    lines =
        subst (AreLines script.version 2 below) numbered_lines
        (are_lines script.version 2 (forms_of script) all_fit);
    names_are =
        λ kind. ap (names_of kind) (tokens_are script.version (forms_of script) all_fit)
        ∙ names_are script.version script inner is.same_vars is.same_sems is.same_barriers
        is.same_threads kind;
    vars =
        ap (values_of kinds.Var) (tokens_are script.version (forms_of script) all_fit)
        ∙ vars_are script.version script inner is.same_vars is.same_sems is.same_barriers
        is.same_threads (are_read kinds.Var script.vars vars_printed);
    sems =
        ap (values_of kinds.Sem) (tokens_are script.version (forms_of script) all_fit)
        ∙ sems_are script.version script inner is.same_vars is.same_sems is.same_barriers
        is.same_threads (are_read kinds.Sem script.sems sems_printed);
    barriers =
        ap (values_of kinds.Barrier) (tokens_are script.version (forms_of script) all_fit)
        ∙ barriers_are script.version script inner is.same_vars is.same_sems is.same_barriers
        is.same_threads (are_read kinds.Barrier script.barriers barriers_printed);
    names = names;
    fits = refit short;
  }

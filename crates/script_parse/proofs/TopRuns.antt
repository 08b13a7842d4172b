-- The declarations of a script are taken one after another.
use Rattle.std.proofs.Common.{◌≡◌, ℕ, suc, ◌+◌, inl, inr, true, false, length, List, [], ◌∷◌, ◌++◌}
use Rattle.std.proofs.Common.{map, Some, refl, sym, ap, ◌∙◌, subst, arith, append_assoc}
use Rattle.std.specs.Prelude.{ℤ, nat_le, codes, All}
use Rattle.std.specs.List.{list_all}
use Rattle.std.proofs.lemmas.Bool.{lt-leb}
use Rattle.std.proofs.lemmas.List.{append-nil, length-append}
use Rattle.std.proofs.lemmas.List.Elements.{All-head, All-tail, filter_map-append}
use Rattle.pct_ask.specs.Tokens.{Token, Word, Symbol}
use Rattle.pct_ask.specs.Words.{is_among}
use Rattle.pct_ask.specs.NameLists.{NameLists, AreNames, list_of, all_names}
use Rattle.pct_ask.specs.declared.names.NameKind.{NameKind}
use Rattle.pct_ask.specs.declared.names.NameKind.TheVariants as kinds
use Rattle.script_tree.specs.ScriptText.{ScriptText, Thread as ThreadTree}
use Rattle.script_tree.specs.Forms.{TokenForm, MeantForm, Plain, Valued, Thread, On, Into, Write}
use Rattle.script_tree.specs.Forms.{Add, Cas, Wait, Yield, Assert, Set, If, While, End, Else}
use Rattle.script_tree.specs.Forms.{kind_word, has_value, is_plain, tokens_of_form, IsFormOf, Means}
use Rattle.script_tree.specs.Lines.{tokens_in, declared_name, names_of, declared_value, values_of}
use Rattle.script_tree.specs.Grammar.{Line, declares, Says, AreLines}
use Rattle.script_parse.specs.Part.{Open, ReadPart}
use Rattle.script_parse.specs.Reading as reading
use Rattle.script_parse.specs.Reading.{Finder, is_empty, with_form}
use Rattle.script_parse.proofs.Standing.{Stands, blank_stands}
use Rattle.script_parse.proofs.DeclaredValues.{AreValues, blank_values}
use Rattle.script_parse.proofs.DeclaredForms.{form_adds}
use Rattle.script_parse.proofs.Runs.{IsFree, Runs}
use Rattle.script_parse.proofs.RunsRead.{form_after, same_version}
use Rattle.script_parse.proofs.ReadLines.{blank_in}
use Rattle.script_parse.proofs.LineNames.{is_thread, says_no_name, none_declared}
use Rattle.script_parse.proofs.NewNames.{fresh_name}
use Rattle.script_parse.proofs.Choices.{clash}

-- no thread began
pub record IsTop (part : ReadPart) : Type 0 where
  pub no_names : part.names.threads ≡ []
  pub no_threads : part.threads ≡ []
  pub no_blocks : part.open_blocks ≡ []

-- a name that isn't declared yet, and has room
record IsNew (part : ReadPart) (kind : NameKind) (name : List ℕ) : Type 0 where
  fresh : is_among name (all_names part.names) ≡ false
  few : nat_le 64 (length (list_of kind part.names)) ≡ false

-- a line that declares can be taken
record IsTaken (part : ReadPart) (find : Finder) (n : ℕ) (meant : MeantForm) : Type 0 where
  free : IsFree part find meant
  top : IsTop (with_form part find n meant)

plain_top : (part : ReadPart) (kind : NameKind) (name : List ℕ) → is_plain kind ≡ true → IsTop part
    → IsTop (reading.with_declared part kind name)
plain_top part kinds.Mutex name p t = record {
  no_names = t.no_names;
  no_threads = t.no_threads;
  no_blocks = t.no_blocks;
}
plain_top part kinds.Cond name p t = record {
  no_names = t.no_names;
  no_threads = t.no_threads;
  no_blocks = t.no_blocks;
}
plain_top part kinds.RwLock name p t = record {
  no_names = t.no_names;
  no_threads = t.no_threads;
  no_blocks = t.no_blocks;
}
plain_top part kind name p t = absurd cc

valued_top : (part : ReadPart) (kind : NameKind) (name : List ℕ) (value : ℤ) → has_value kind ≡ true
    → IsTop part → IsTop (reading.with_first_value kind value
    (reading.with_declared part kind name))
valued_top part kinds.Var name value p t = record {
  no_names = t.no_names;
  no_threads = t.no_threads;
  no_blocks = t.no_blocks;
}
valued_top part kinds.Sem name value p t = record {
  no_names = t.no_names;
  no_threads = t.no_threads;
  no_blocks = t.no_blocks;
}
valued_top part kinds.Barrier name value p t = record {
  no_names = t.no_names;
  no_threads = t.no_threads;
  no_blocks = t.no_blocks;
}
valued_top part kind name value p t = absurd cc

no_thread_yet : (part : ReadPart) → IsTop part → is_empty part.names.threads ≡ true
no_thread_yet part t = rw t.no_names refl

declaration_taken : (version : ℕ) (part : ReadPart) (find : Finder) (n : ℕ) → IsTop part
    → (cut : TokenForm) (meant : MeantForm) → Means cut meant → IsFormOf version cut
    → declares meant ≡ true
    → ((kind : NameKind) (name : List ℕ) (more : List Token)
    → tokens_of_form cut ≡ Word (kind_word kind) ∷ Word name ∷ more → IsNew part kind name)
    → IsTaken part find n meant
declaration_taken version part find n t (Plain kind name) meant m of d new =
    let fits = new kind name [] refl in
    subst (IsTaken part find n) (sym m) (record {
      free = record {
        stands = no_thread_yet part t;
        known = refl;
        fresh = fits.fresh;
        closes = refl;
        few = fits.few;
      };
      top = plain_top part kind name of.0 t;
    })
declaration_taken version part find n t (Valued kind name value) meant m of d new =
    let fits = new kind name (Symbol (codes "=") ∷ value) refl in
    subst (IsTaken part find n) (sym m) (record {
      free = record {
        stands = no_thread_yet part t;
        known = refl;
        fresh = fits.fresh;
        closes = refl;
        few = fits.few;
      };
      top = valued_top part kind name _ of.0 t;
    })
declaration_taken version part find n t (Thread name) meant m of d new =
    clash (sym d ∙ ap declares m)
declaration_taken version part find n t (On verb object) meant m of d new =
    clash (sym d ∙ ap declares m)
declaration_taken version part find n t (Into verb reg object) meant m of d new =
    clash (sym d ∙ ap declares m)
declaration_taken version part find n t (Write var value) meant m of d new =
    clash (sym d ∙ ap declares m.2)
declaration_taken version part find n t (Add reg var value) meant m of d new =
    clash (sym d ∙ ap declares m.2)
declaration_taken version part find n t (Cas reg var old more) meant m of d new =
    clash (sym d ∙ ap declares m.4)
declaration_taken version part find n t (Wait waiting mutex) meant m of d new =
    clash (sym d ∙ ap declares m)
declaration_taken version part find n t Yield meant m of d new = clash (sym d ∙ ap declares m)
declaration_taken version part find n t (Assert test) meant m of d new =
    clash (sym d ∙ ap declares m.2)
declaration_taken version part find n t (Set reg value) meant m of d new =
    clash (sym d ∙ ap declares m.2)
declaration_taken version part find n t (If test) meant m of d new = clash (sym d ∙ ap declares m.2)
declaration_taken version part find n t (While test) meant m of d new =
    clash (sym d ∙ ap declares m.2)
declaration_taken version part find n t End meant m of d new = clash (sym d ∙ ap declares m)
declaration_taken version part find n t Else meant m of d new = clash (sym d ∙ ap declares m)

named_here : (kind : NameKind) (name : List ℕ) (more : List Token)
    → declared_name kind (Word (kind_word kind) ∷ Word name ∷ more) ≡ Some name
named_here kinds.Thread name more = refl
named_here kind name more = refl

same_names : (a b c d e f g h i j k l : List (List ℕ)) (m n : List (List ℕ)) → a ≡ b → c ≡ d → e ≡ f
    → g ≡ h → i ≡ j → k ≡ l → m ≡ n
    → ◌≡◌ {A = NameLists} (record {
      threads = a;
      vars = c;
      mutexes = e;
      conds = g;
      sems = i;
      barriers = k;
      rwlocks = m;
    })
    (record {
      threads = b;
      vars = d;
      mutexes = f;
      conds = h;
      sems = j;
      barriers = l;
      rwlocks = n;
    })
same_names a b c d e f g h i j k l m n p q r s t u v = rw (p, q, r, s, t, u, v) refl

same_part : (v w : ℕ) (ns ms : NameLists) (a b c d e f : List ℤ) (ts us : List ThreadTree)
    (os ps : List Open) → v ≡ w → ns ≡ ms → a ≡ b → c ≡ d → e ≡ f → ts ≡ us → os ≡ ps
    → ◌≡◌ {A = ReadPart} (record {
      version = v;
      names = ns;
      vars = a;
      sems = c;
      barriers = e;
      threads = ts;
      open_blocks = os;
    })
    (record {
      version = w;
      names = ms;
      vars = b;
      sems = d;
      barriers = f;
      threads = us;
      open_blocks = ps;
    })
same_part v w ns ms a b c d e f ts us os ps p q r s t u x = rw (p, q, r, s, t, u, x) refl

module _ (script : ScriptText) (are_names : AreNames script.names) (find : Finder) where
  -- what was read of the script above its threads
  abbrev pub top_part : ReadPart
  top_part = record {
    version = script.version;
    names = record script.names { threads = [] };
    vars = script.vars;
    sems = script.sems;
    barriers = script.barriers;
    threads = [];
    open_blocks = [];
  }

  -- what these lines and the rest declare is what the script has
  pub record IsAbove (part : ReadPart) (before low : List (List Token))
      (texts : List (List ℕ)) : Type
      0 where
    pub version : part.version ≡ script.version
    pub stands : Stands part before
    pub are_values : AreValues part low
    pub names : (kind : NameKind) → names_of kind (before ++ map tokens_in texts)
        ≡ list_of kind script.names
    pub vars : values_of kinds.Var (low ++ map tokens_in texts) ≡ script.vars
    pub sems : values_of kinds.Sem (low ++ map tokens_in texts) ≡ script.sems
    pub barriers : values_of kinds.Barrier (low ++ map tokens_in texts) ≡ script.barriers

  one_line : (part next : ReadPart) (before low : List (List Token)) (text : List ℕ)
      (texts : List (List ℕ)) → IsAbove part before low (text ∷ texts) → next.version ≡ part.version
      → Stands next (before ++ tokens_in text ∷ []) → AreValues next (low ++ tokens_in text ∷ [])
      → IsAbove next (before ++ tokens_in text ∷ []) (low ++ tokens_in text ∷ []) texts
  one_line part next before low text texts h v s a =
      let moved = append_assoc low (tokens_in text ∷ []) (map tokens_in texts) in
      record {
        version = v ∙ h.version;
        stands = s;
        are_values = a;
        names =
            λ kind. ap (names_of kind) (append_assoc before (tokens_in text ∷ [])
            (map tokens_in texts)) ∙ h.names kind;
        vars = ap (values_of kinds.Var) moved ∙ h.vars;
        sems = ap (values_of kinds.Sem) moved ∙ h.sems;
        barriers = ap (values_of kinds.Barrier) moved ∙ h.barriers;
      }

  -- what is declared and is still to come
  parted : (part : ReadPart) (before low : List (List Token)) (texts : List (List ℕ))
      → IsAbove part before low texts → (kind : NameKind)
      → list_of kind part.names ++ names_of kind (map tokens_in texts) ≡ list_of kind script.names
  parted part before low texts h kind =
      ap (λ (xs : List (List ℕ)). xs ++ names_of kind (map tokens_in texts))
      (sym (h.stands.names kind)) ∙ sym
      (filter_map-append (declared_name kind) before (map tokens_in texts)) ∙ h.names kind

  is_new : (part : ReadPart) (before low : List (List Token)) (text : List ℕ)
      (texts : List (List ℕ))
      → IsAbove part before low (text ∷ texts)
      → (kind : NameKind) (name : List ℕ) (more : List Token)
      → tokens_in text ≡ Word (kind_word kind) ∷ Word name ∷ more → IsNew part kind name
  is_new part before low text texts h kind name more e =
      let rest : List (List ℕ) = names_of kind (map tokens_in texts) in
      let it : declared_name kind (tokens_in text) ≡ Some name =
      ap (declared_name kind) e ∙ named_here kind name more in
      let first : names_of kind (map tokens_in (text ∷ texts)) ≡ name ∷ rest = rw it refl in
      let whole : list_of kind part.names ++ name ∷ rest ≡ list_of kind script.names =
      ap (λ (xs : List (List ℕ)). list_of kind part.names ++ xs) (sym first)
      ∙ parted part before low (text ∷ texts) h kind in
      let longer : length (list_of kind part.names) + suc (length rest)
      ≡ length (list_of kind script.names) =
      sym (length-append (list_of kind part.names) (name ∷ rest))
      ∙ ap (λ (xs : List (List ℕ)). length xs) whole in
      let most = are_names.few kind in
      record {
        fresh =
            fresh_name script.names part.names kind name
            (λ k. names_of k (map tokens_in (text ∷ texts))) rest are_names.distinct
            (parted part before low (text ∷ texts) h) first;
        few = lt-leb 64 (length (list_of kind part.names)) (omega (arith, longer, most));
      }

  -- where no declaration is left, all was read
  all_read : (part : ReadPart) (before low : List (List Token)) (n : ℕ) (texts : List (List ℕ))
      (rest : List Line) → IsTop part → IsAbove part before low texts
      → AreLines part.version n texts rest → list_all says_no_name rest ≡ true → part ≡ top_part
  all_read part before low n texts rest t h a q =
      same_part part.version script.version part.names (record script.names { threads = [] })
      part.vars script.vars part.sems script.sems part.barriers script.barriers part.threads []
      part.open_blocks [] h.version
      (same_names part.names.threads [] part.names.vars script.names.vars part.names.mutexes
      script.names.mutexes part.names.conds script.names.conds part.names.sems script.names.sems
      part.names.barriers script.names.barriers part.names.rwlocks script.names.rwlocks
      t.no_names (names_read kinds.Var refl) (names_read kinds.Mutex refl)
      (names_read kinds.Cond refl) (names_read kinds.Sem refl) (names_read kinds.Barrier refl)
      (names_read kinds.RwLock refl))
      (values_read kinds.Var refl part.vars script.vars h.are_values.vars h.vars)
      (values_read kinds.Sem refl part.sems script.sems h.are_values.sems h.sems)
      (values_read kinds.Barrier refl part.barriers script.barriers h.are_values.barriers
      h.barriers) t.no_threads t.no_blocks
    where
      names_read : (kind : NameKind) → is_thread kind ≡ false
          → list_of kind part.names ≡ list_of kind script.names
      names_read kind f =
          let none = (none_declared part.version n texts rest kind f a q).0 in
          sym (append-nil (list_of kind part.names))
          ∙ ap (λ (xs : List (List ℕ)). list_of kind part.names ++ xs) (sym none)
          ∙ parted part before low texts h kind

      values_read : (kind : NameKind) → is_thread kind ≡ false → (xs ys : List ℤ)
          → values_of kind low ≡ xs → values_of kind (low ++ map tokens_in texts) ≡ ys → xs ≡ ys
      values_read kind f xs ys p r =
          let none = (none_declared part.version n texts rest kind f a q).1 in
          sym p ∙ sym (append-nil (values_of kind low))
          ∙ ap (λ (zs : List ℤ). values_of kind low ++ zs) (sym none)
          ∙ sym (filter_map-append (declared_value kind) low (map tokens_in texts)) ∙ r

  line_first : (a b : Line) (xs ys : List Line) → a ∷ xs ≡ b ∷ ys → (a ≡ b) × (xs ≡ ys)
  line_first a b xs ys e = (cc, cc)

  pub tops_run : (texts : List (List ℕ)) (n : ℕ) (part : ReadPart) (top rest : List Line)
      (before low : List (List Token)) (last : ReadPart) → IsTop part
      → IsAbove part before low texts
      → AreLines part.version n texts (top ++ rest) → All (λ line. declares line.1 ≡ true) top
      → list_all says_no_name rest ≡ true
      → Runs find top_part rest last → Runs find part (top ++ rest) last
  tops_run texts n part [] rest before low last t h a d q r =
      subst (λ (p : ReadPart). Runs find p rest last)
      (sym (all_read part before low n texts rest t h a q)) r
  tops_run [] n part (line ∷ top) rest before low last t h a d q r = absurd cc
  tops_run (text ∷ texts) n part (line ∷ top) rest before low last t h (inl a) d q r =
      let blank = blank_in text a.0 in
      let stands : Stands part (before ++ tokens_in text ∷ []) =
      subst (λ (ts : List Token). Stands part (before ++ ts ∷ [])) (sym blank)
      (blank_stands part before h.stands) in
      let are_values : AreValues part (low ++ tokens_in text ∷ []) =
      subst (λ (ts : List Token). AreValues part (low ++ ts ∷ [])) (sym blank)
      (blank_values part low h.are_values) in
      tops_run texts (n + 1) part (line ∷ top) rest (before ++ tokens_in text ∷ [])
      (low ++ tokens_in text ∷ []) last t
      (one_line part part before low text texts h refl stands are_values) a.1 d q r
  tops_run (text ∷ texts) n part (line ∷ top) rest before low last t h (inr a) d q r =
      let meant : MeantForm = a.0 in
      let says : Says part.version text meant = a.3 in
      let next : ReadPart = with_form part find n meant in
      let same = line_first line (n, meant) (top ++ rest) a.1 a.2 in
      let declared : declares meant ≡ true =
      ap (λ (l : Line). declares l.1) (sym same.0)
      ∙ All-head (λ (l : Line). declares l.1 ≡ true) line top d in
      let ok = declaration_taken part.version part find n t says.0 meant says.1.means says.1.of
      declared (λ kind name more e. is_new part before low text texts h kind name more
      (says.1.spelled ∙ e)) in
      let stands = form_after part find n before text meant h.stands says ok.free in
      let version = same_version part next before (tokens_in text) h.stands stands in
      let adds = form_adds part.version part find n low h.are_values says.0 meant says.1.means
      says.1.of in
      let are_values : AreValues next (low ++ tokens_in text ∷ []) =
      subst (λ (ts : List Token). AreValues next (low ++ ts ∷ [])) (sym says.1.spelled)
      adds.values in
      let lines : AreLines next.version (n + 1) texts (top ++ rest) =
      subst (λ (v : ℕ). AreLines v (n + 1) texts (top ++ rest)) version
      (subst (λ (ls : List Line). AreLines part.version (n + 1) texts ls) (sym same.1) a.4) in
      subst (λ (l : Line). Runs find part (l ∷ (top ++ rest)) last) (sym same.0) (
        ok.free,
        tops_run texts (n + 1) next top rest (before ++ tokens_in text ∷ [])
            (low ++ tokens_in text ∷ []) last ok.top
            (one_line part next before low text texts h (sym version) stands are_values) lines
            (All-tail (λ (l : Line). declares l.1 ≡ true) line top d) q r,
      )

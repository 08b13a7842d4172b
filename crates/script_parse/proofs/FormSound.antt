-- What tokens are read as is a form of theirs.
use Rattle.std.proofs.Common.{◌≡◌, ℕ, suc, ◌+◌, inl, inr, true, cond, get_or, List, []}
use Rattle.std.proofs.Common.{◌∷◌, ◌++◌, Option, Some, None, refl, sym, ap, ◌∙◌, take, drop}
use Rattle.std.proofs.Common.{drop-cons, add-one, subst}
use Rattle.std.specs.Prelude.{nat_le, ◌&&◌, codes}
use Rattle.std.specs.List.{position, find}
use Rattle.std.specs.Option.{option_map, option_and_then}
use Rattle.std.specs.Str.{bytes_eq}
use Rattle.std.proofs.lemmas.Bool.{leb-true, and_parts}
use Rattle.std.proofs.lemmas.List.{take-append-drop}
use Rattle.std.proofs.lemmas.List.Quantifiers.{position-Some}
use Rattle.pct_ask.specs.Words.{is_name}
use Rattle.pct_ask.specs.Tokens.{Token, Word, Number, Symbol}
use Rattle.pct_ask.specs.declared.names.NameKind.{NameKind}
use Rattle.pct_ask.specs.declared.names.NameKind.TheVariants as kinds
use Rattle.pct_ask.specs.Words.{register_word}
use Rattle.pct_ask.specs.declared.statement_verbs.TheConstants.{ON_VERBS, INTO_VERBS}
use Rattle.pct_ask.specs.declared.statement_verbs.OnVerb.{OnVerb}
use Rattle.pct_ask.specs.declared.statement_verbs.IntoVerb.{IntoVerb}
use Rattle.pct_ask.specs.Words.{register_in}
use Rattle.pct_ask.specs.StatementVerbs.{on_word, into_word, on_verb_in, into_verb_in, on_since}
use Rattle.pct_ask.specs.StatementVerbs.{into_since}
use Rattle.script_tree.specs.Trees.{Expression}
use Rattle.script_tree.specs.Expressions.{IsExpression}
use Rattle.script_tree.specs.Forms.{TokenForm, MeantForm, Plain, Valued, Thread, On, Into, Write}
use Rattle.script_tree.specs.Forms.{Add, Cas, Wait, Yield, Assert, Set, If, While, End, Else}
use Rattle.script_tree.specs.Forms.{kind_word, is_plain, has_value, kind_since, tokens_of_form}
use Rattle.script_tree.specs.Forms.{Means, IsFormOf, IsForm}
use Rattle.pct_ask.specs.NameLists.{kind_in}
use Rattle.script_parse.specs.Machine.{expression_in}
use Rattle.script_parse.specs.Saying.{lone_word, is_comma, parts_at, plain_form, lone_form}
use Rattle.script_parse.specs.Saying.{value_parts, valued_form, declared_form, on_form, into_object}
use Rattle.script_parse.specs.Saying.{into_form, wait_mutex, wait_form, bare_form, quiet_form}
use Rattle.script_parse.specs.Saying.{write_form, add_form, cas_pair, cas_parts, cas_form, set_form}
use Rattle.script_parse.specs.Saying.{other_form, by_on, by_into, by_kind, form_in}
use Rattle.script_parse.proofs.Choices.{some, some_is, chosen, passed, mapped_some, bind_some}
use Rattle.script_parse.proofs.Choices.{same_bytes, one_choice}
use Rattle.script_parse.proofs.FirstValues.{value_says}
use Rattle.script_parse.proofs.ExpressionSound.{expression_is_spelled, register_says}

-- the tokens are a line of this form
pub record HasCut (version : ℕ) (tokens : List Token) (meant : MeantForm) : Type 0 where
  pub cut : TokenForm
  pub form : IsForm version tokens cut meant

told : {version : ℕ} {tokens : List Token} {meant : MeantForm} (cut : TokenForm)
    (sense : MeantForm) → tokens ≡ tokens_of_form cut → IsFormOf version cut → Means cut sense
    → sense ≡ meant → HasCut version tokens meant
told {version} {tokens} {meant} cut sense s o m k = record {
  cut = cut;
  form = subst (IsForm version tokens cut) k (record { spelled = s; of = o; means = m });
}

-- an expression that is read, as it is spelled
made_says : (make : Expression → MeantForm) (tokens : List Token) (meant : MeantForm)
    → option_map make (expression_in tokens) ≡ Some meant
    → (tree : Expression) × IsExpression tokens tree × (make tree ≡ meant)
made_says make tokens meant e =
    let m = mapped_some make (expression_in tokens) meant e in
    (m.0, expression_is_spelled tokens m.0 m.1, m.2)

-- a word by which one of these is found
found_says : {A : Type 0} (text : A → List ℕ) (word : List ℕ) (list : List A) (a : A)
    → find (λ b. bytes_eq word (text b)) list ≡ Some a → word ≡ text a
found_says text word [] a e = absurd cc
found_says text word (b ∷ others) a e =
    one_choice text word b (find (λ b. bytes_eq word (text b)) others) a e
    (λ e. found_says text word others a e)

kind_word_says : (word : List ℕ) (kind : NameKind) → kind_in word ≡ Some kind
    → word ≡ kind_word kind
kind_word_says word kind e =
    one_choice kind_word word kinds.Thread _ kind e (λ e.
    one_choice kind_word word kinds.Var _ kind e (λ e.
    one_choice kind_word word kinds.Mutex _ kind e (λ e.
    one_choice kind_word word kinds.Cond _ kind e (λ e.
    one_choice kind_word word kinds.Sem _ kind e (λ e.
    one_choice kind_word word kinds.Barrier _ kind e (λ e.
    one_choice kind_word word kinds.RwLock _ kind e (λ e. absurd cc)))))))

starts : (word text : List ℕ) (tokens : List Token) → word ≡ text
    → ◌≡◌ {A = List Token} (Word word ∷ tokens) (Word text ∷ tokens)
starts word text tokens e = ap (λ (w : List ℕ). Word w ∷ tokens) e

-- ---- the forms, one by one

on_says : (version : ℕ) (word : List ℕ) (verb : OnVerb) (tokens : List Token) (meant : MeantForm)
    → word ≡ on_word verb → on_form version verb tokens ≡ Some meant
    → HasCut version (Word word ∷ tokens) meant
on_says version word verb (Word object ∷ []) meant w e =
    let p = passed (nat_le (on_since verb) version && is_name version object)
    (some (On verb object)) meant e in
    let b = and_parts (nat_le (on_since verb) version) (is_name version object) p.0 in
    told (On verb object) (On verb object) (starts word (on_word verb) _ w)
    (leb-true (on_since verb) version b.0, b.1) refl (some_is (On verb object) meant p.1)
on_says version word verb tokens meant w e = absurd cc

lone_says_word : (tokens : List Token) (word : List ℕ) → lone_word tokens ≡ Some word
    → tokens ≡ Word word ∷ []
lone_says_word (Word other ∷ []) word e = ap (λ (w : List ℕ). Word w ∷ []) (some_is other word e)
lone_says_word tokens word e = absurd cc

into_object_says : (version : ℕ) (word : List ℕ) (verb : IntoVerb) (reg_word object : List ℕ)
    (meant : MeantForm) → word ≡ into_word verb
    → into_object version verb reg_word object ≡ Some meant
    → HasCut version (Word word ∷ Word reg_word ∷ Word object ∷ []) meant
into_object_says version word verb reg_word object meant w e =
    let p = passed (nat_le (into_since verb) version && is_name version object)
    (option_map (λ r. Into verb r object) (register_in reg_word)) meant e in
    let b = and_parts (nat_le (into_since verb) version) (is_name version object) p.0 in
    let m = mapped_some (λ (r : ℕ). Into verb r object) (register_in reg_word) meant p.1 in
    let r = register_says reg_word m.0 m.1 in
    told (Into verb m.0 object) (Into verb m.0 object)
    (starts word (into_word verb) _ w
    ∙ ap (λ (v : List ℕ). Word (into_word verb) ∷ Word v ∷ Word object ∷ []) (sym r.1))
    (leb-true (into_since verb) version b.0, r.0, b.1) refl m.2

into_says : (version : ℕ) (word : List ℕ) (verb : IntoVerb) (tokens : List Token)
    (meant : MeantForm) → word ≡ into_word verb → into_form version verb tokens ≡ Some meant
    → HasCut version (Word word ∷ tokens) meant
into_says version word verb (Word reg_word ∷ tokens) meant w e =
    let b = bind_some (into_object version verb reg_word) (lone_word tokens) meant e in
    subst (λ (ts : List Token). HasCut version (Word word ∷ Word reg_word ∷ ts) meant)
    (sym (lone_says_word tokens b.0 b.1))
    (into_object_says version word verb reg_word b.0 meant w b.2)
into_says version word verb tokens meant w e = absurd cc

plain_says : (version : ℕ) (word : List ℕ) (kind : NameKind) (name : List ℕ) (meant : MeantForm)
    → word ≡ kind_word kind → plain_form version kind name ≡ Some meant
    → HasCut version (Word word ∷ Word name ∷ []) meant
plain_says version word kind name meant w e =
    let p = passed (is_plain kind && nat_le (kind_since kind) version && is_name version name)
    (some (Plain kind name)) meant e in
    let b = and_parts (is_plain kind && nat_le (kind_since kind) version) (is_name version name)
    p.0 in
    let c = and_parts (is_plain kind) (nat_le (kind_since kind) version) b.0 in
    told (Plain kind name) (Plain kind name) (starts word (kind_word kind) _ w)
    (c.0, leb-true (kind_since kind) version c.1, b.1) refl (some_is (Plain kind name) meant p.1)

lone_says : (version : ℕ) (word : List ℕ) (kind : NameKind) (name : List ℕ) (meant : MeantForm)
    → word ≡ kind_word kind → lone_form version kind name ≡ Some meant
    → HasCut version (Word word ∷ Word name ∷ []) meant
lone_says version word kinds.Thread name meant w e =
    let p = passed (is_name version name) (some (Thread name)) meant e in
    told (Thread name) (Thread name) (starts word (codes "thread") _ w) p.0 refl
    (some_is (Thread name) meant p.1)
lone_says version word kind name meant w e = plain_says version word kind name meant w e

valued_says : (version : ℕ) (word : List ℕ) (kind : NameKind) (name signs : List ℕ)
    (value : List Token) (meant : MeantForm) → word ≡ kind_word kind
    → valued_form version kind name signs value ≡ Some meant
    → HasCut version (Word word ∷ Word name ∷ Symbol signs ∷ value) meant
valued_says version word kind name signs value meant w e =
    let p = passed (has_value kind && bytes_eq signs (codes "=") && is_name version name)
    (option_map (Valued kind name) (value_parts kind value)) meant e in
    let b = and_parts (has_value kind && bytes_eq signs (codes "=")) (is_name version name) p.0 in
    let c = and_parts (has_value kind) (bytes_eq signs (codes "=")) b.0 in
    let m = mapped_some (Valued kind name) (value_parts kind value) meant p.1 in
    let v = value_says kind value m.0 m.1 in
    told (Valued kind name value) (Valued kind name value)
    (starts word (kind_word kind) _ w
    ∙ ap (λ (s : List ℕ). Word (kind_word kind) ∷ Word name ∷ Symbol s ∷ value)
    (same_bytes signs (codes "=") c.1)) (c.0, b.1, v.0) refl (ap (Valued kind name) v.1 ∙ m.2)

declared_says : (version : ℕ) (word : List ℕ) (kind : NameKind) (tokens : List Token)
    (meant : MeantForm) → word ≡ kind_word kind → declared_form version kind tokens ≡ Some meant
    → HasCut version (Word word ∷ tokens) meant
declared_says version word kind (Word name ∷ []) meant w e =
    lone_says version word kind name meant w e
declared_says version word kind (Word name ∷ Symbol signs ∷ value) meant w e =
    valued_says version word kind name signs value meant w e
declared_says version word kind tokens meant w e = absurd cc

write_says : (version : ℕ) (tokens : List Token) (meant : MeantForm)
    → write_form version tokens ≡ Some meant → HasCut version (Word (codes "write") ∷ tokens) meant
write_says version (Word var ∷ value) meant e =
    let p = passed (is_name version var) (option_map (Write var) (expression_in value)) meant e in
    let t = made_says (Write var) value meant p.1 in
    told (Write var value) (Write var t.0) refl p.0 (t.0, t.1, refl) t.2
write_says version tokens meant e = absurd cc

add_says : (version : ℕ) (tokens : List Token) (meant : MeantForm)
    → add_form version tokens ≡ Some meant → HasCut version (Word (codes "add") ∷ tokens) meant
add_says version (Word reg_word ∷ Word var ∷ value) meant e =
    let p = passed (is_name version var)
    (option_and_then (λ r. option_map (Add r var) (expression_in value))
    (register_in reg_word)) meant e in
    let b = bind_some (λ (r : ℕ). option_map (Add r var) (expression_in value))
    (register_in reg_word) meant p.1 in
    let t = made_says (Add b.0 var) value meant b.2 in
    let r = register_says reg_word b.0 b.1 in
    told (Add b.0 var value) (Add b.0 var t.0)
    (ap (λ (v : List ℕ). Word (codes "add") ∷ Word v ∷ Word var ∷ value) (sym r.1)) (r.0, p.0)
    (t.0, t.1, refl) t.2
add_says version tokens meant e = absurd cc

comma_says : (token : Token) → is_comma token ≡ true → token ≡ Symbol (codes ",")
comma_says (Symbol signs) h = ap Symbol (same_bytes signs (codes ",") h)
comma_says (Word word) h = absurd cc
comma_says (Number digits) h = absurd cc

comma_splits : (values : List Token) (place : ℕ) → position is_comma values ≡ Some place
    → values ≡ take place values ++ Symbol (codes ",") ∷ drop (place + 1) values
comma_splits values place e =
    let found = position-Some is_comma values place (Symbol []) e in
    let here : drop place values ≡ get_or values place (Symbol []) ∷ drop (suc place) values =
    drop-cons values place (Symbol []) found.0 in
    let behind : drop place values ≡ Symbol (codes ",") ∷ drop (place + 1) values =
    here ∙ rw (add-one, comma_says (get_or values place (Symbol [])) found.1) refl in
    sym (take-append-drop place values) ∙ ap (λ (ts : List Token). take place values ++ ts) behind

cas_pair_says : (version : ℕ) (reg_word var : List ℕ) (reg : ℕ) (old new values : List Token)
    (meant : MeantForm) → register_in reg_word ≡ Some reg → is_name version var ≡ true
    → values ≡ old ++ Symbol (codes ",") ∷ new → cas_pair reg var old new ≡ Some meant
    → HasCut version (Word (codes "cas") ∷ Word reg_word ∷ Word var ∷ values) meant
cas_pair_says version reg_word var reg old new values meant f named split e =
    let b = bind_some (λ (a : Expression). option_map (Cas reg var a)
    (expression_in new)) (expression_in old) meant e in
    let m = mapped_some (Cas reg var b.0) (expression_in new) meant b.2 in
    let r = register_says reg_word reg f in
    told (Cas reg var old new) (Cas reg var b.0 m.0)
    (ap (λ (v : List ℕ). Word (codes "cas") ∷ Word v ∷ Word var ∷ values) (sym r.1)
    ∙ ap (λ (ts : List Token). Word (codes "cas") ∷ Word (register_word reg) ∷ Word var ∷ ts) split)
    (r.0, named)
    (b.0, m.0, expression_is_spelled old b.0 b.1, expression_is_spelled new m.0 m.1, refl) m.2

cas_parts_says : (version : ℕ) (reg_word var : List ℕ) (reg : ℕ) (found : Option ℕ)
    (values : List Token) (meant : MeantForm) → register_in reg_word ≡ Some reg
    → is_name version var ≡ true → position is_comma values ≡ found
    → cas_parts reg var (parts_at found values) ≡ Some meant
    → HasCut version (Word (codes "cas") ∷ Word reg_word ∷ Word var ∷ values) meant
cas_parts_says version reg_word var reg None values meant f named p e = absurd cc
cas_parts_says version reg_word var reg (Some place) values meant f named p e =
    cas_pair_says version reg_word var reg (take place values) (drop (place + 1) values) values
    meant f named (comma_splits values place p) e

cas_says : (version : ℕ) (tokens : List Token) (meant : MeantForm)
    → cas_form version tokens ≡ Some meant → HasCut version (Word (codes "cas") ∷ tokens) meant
cas_says version (Word reg_word ∷ Word var ∷ values) meant e =
    let p = passed (is_name version var) (option_and_then (λ r. cas_parts r var
    (parts_at (position is_comma values) values)) (register_in reg_word)) meant e in
    let b = bind_some (λ (r : ℕ). cas_parts r var
    (parts_at (position is_comma values) values)) (register_in reg_word) meant p.1 in
    cas_parts_says version reg_word var b.0 (position is_comma values) values meant b.1 p.0 refl b.2
cas_says version tokens meant e = absurd cc

set_says : (version : ℕ) (tokens : List Token) (meant : MeantForm)
    → set_form tokens ≡ Some meant → HasCut version (Word (codes "set") ∷ tokens) meant
set_says version (Word reg_word ∷ value) meant e =
    let b = bind_some (λ (r : ℕ). option_map (Set r) (expression_in value))
    (register_in reg_word) meant e in
    let t = made_says (Set b.0) value meant b.2 in
    let r = register_says reg_word b.0 b.1 in
    told (Set b.0 value) (Set b.0 t.0)
    (ap (λ (v : List ℕ). Word (codes "set") ∷ Word v ∷ value) (sym r.1)) r.0 (t.0, t.1, refl) t.2
set_says version tokens meant e = absurd cc

assert_says : (version : ℕ) (tokens : List Token) (meant : MeantForm)
    → option_map Assert (expression_in tokens) ≡ Some meant
    → HasCut version (Word (codes "assert") ∷ tokens) meant
assert_says version tokens meant e =
    let t = made_says Assert tokens meant e in
    told (Assert tokens) (Assert t.0) refl tt (t.0, t.1, refl) t.2

if_says : (version : ℕ) (tokens : List Token) (meant : MeantForm)
    → option_map If (expression_in tokens) ≡ Some meant
    → HasCut version (Word (codes "if") ∷ tokens) meant
if_says version tokens meant e =
    let t = made_says If tokens meant e in
    told (If tokens) (If t.0) refl tt (t.0, t.1, refl) t.2

while_says : (version : ℕ) (tokens : List Token) (meant : MeantForm)
    → option_map While (expression_in tokens) ≡ Some meant
    → HasCut version (Word (codes "while") ∷ tokens) meant
while_says version tokens meant e =
    let t = made_says While tokens meant e in
    told (While tokens) (While t.0) refl tt (t.0, t.1, refl) t.2

wait_mutex_says : (version : ℕ) (waiting mutex : List ℕ) (meant : MeantForm)
    → wait_mutex version waiting mutex ≡ Some meant
    → HasCut version (Word (codes "wait") ∷ Word waiting ∷ Word mutex ∷ []) meant
wait_mutex_says version waiting mutex meant e =
    let p = passed (is_name version waiting && is_name version mutex) (some (Wait waiting mutex))
    meant e in
    told (Wait waiting mutex) (Wait waiting mutex) refl
    (and_parts (is_name version waiting) (is_name version mutex) p.0) refl
    (some_is (Wait waiting mutex) meant p.1)

wait_says : (version : ℕ) (tokens : List Token) (meant : MeantForm)
    → wait_form version tokens ≡ Some meant → HasCut version (Word (codes "wait") ∷ tokens) meant
wait_says version (Word waiting ∷ tokens) meant e =
    let b = bind_some (wait_mutex version waiting) (lone_word tokens) meant e in
    subst (λ (ts : List Token). HasCut version (Word (codes "wait") ∷ Word waiting ∷ ts) meant)
    (sym (lone_says_word tokens b.0 b.1)) (wait_mutex_says version waiting b.0 meant b.2)
wait_says version tokens meant e = absurd cc

yield_says : (version : ℕ) (tokens : List Token) (meant : MeantForm)
    → bare_form Yield tokens ≡ Some meant → HasCut version (Word (codes "yield") ∷ tokens) meant
yield_says version [] meant e =
    told Yield Yield refl tt refl (some_is Yield meant e)
yield_says version (token ∷ tokens) meant e = absurd cc

end_says : (version : ℕ) (tokens : List Token) (meant : MeantForm)
    → bare_form End tokens ≡ Some meant → HasCut version (Word (codes "end") ∷ tokens) meant
end_says version [] meant e =
    told End End refl tt refl (some_is End meant e)
end_says version (token ∷ tokens) meant e = absurd cc

else_says : (version : ℕ) (tokens : List Token) (meant : MeantForm)
    → bare_form Else tokens ≡ Some meant → HasCut version (Word (codes "else") ∷ tokens) meant
else_says version [] meant e =
    told Else Else refl tt refl (some_is Else meant e)
else_says version (token ∷ tokens) meant e = absurd cc

-- ---- the word that a line begins with

one_form : (version : ℕ) (word text : List ℕ) (tokens : List Token) (meant : MeantForm)
    (this others : Option MeantForm) → cond (bytes_eq word text) this others ≡ Some meant
    → (this ≡ Some meant → HasCut version (Word text ∷ tokens) meant)
    → (others ≡ Some meant → HasCut version (Word word ∷ tokens) meant)
    → HasCut version (Word word ∷ tokens) meant
one_form version word text tokens meant this others e here there =
    elim (chosen (bytes_eq word text) this others (Some meant) e) [
      | inl h ↦ subst (λ (w : List ℕ). HasCut version (Word w ∷ tokens) meant)
          (sym (same_bytes word text h.0)) (here h.1)
      | inr h ↦ there h.1
    ]

quiet_says : (version : ℕ) (word : List ℕ) (tokens : List Token) (meant : MeantForm)
    → quiet_form version word tokens ≡ Some meant → HasCut version (Word word ∷ tokens) meant
quiet_says version word tokens meant e =
    one_form version word (codes "wait") tokens meant _ _ e (wait_says version tokens meant) (λ e.
    one_form version word (codes "yield") tokens meant _ _ e (yield_says version tokens meant) (λ e.
    one_form version word (codes "end") tokens meant _ _ e (end_says version tokens meant) (λ e.
    one_form version word (codes "else") tokens meant _ _ e (else_says version tokens meant)
    (λ e. absurd cc))))

other_says : (version : ℕ) (word : List ℕ) (tokens : List Token) (meant : MeantForm)
    → other_form version word tokens ≡ Some meant → HasCut version (Word word ∷ tokens) meant
other_says version word tokens meant e =
    one_form version word (codes "write") tokens meant _ _ e (write_says version tokens meant) (λ e.
    one_form version word (codes "add") tokens meant _ _ e (add_says version tokens meant) (λ e.
    one_form version word (codes "cas") tokens meant _ _ e (cas_says version tokens meant) (λ e.
    one_form version word (codes "set") tokens meant _ _ e (set_says version tokens meant) (λ e.
    one_form version word (codes "assert") tokens meant _ _ e (assert_says version tokens meant)
    (λ e.
    one_form version word (codes "if") tokens meant _ _ e (if_says version tokens meant) (λ e.
    one_form version word (codes "while") tokens meant _ _ e (while_says version tokens meant)
    (λ e. quiet_says version word tokens meant e)))))))

by_on_says : (found : Option OnVerb) (version : ℕ) (word : List ℕ) (tokens : List Token)
    (meant : MeantForm) (others : Option MeantForm) → on_verb_in word ≡ found
    → by_on found version tokens others ≡ Some meant
    → (others ≡ Some meant → HasCut version (Word word ∷ tokens) meant)
    → HasCut version (Word word ∷ tokens) meant
by_on_says None version word tokens meant others f e there = there e
by_on_says (Some verb) version word tokens meant others f e there =
    on_says version word verb tokens meant (found_says on_word word ON_VERBS.now verb f) e

by_into_says : (found : Option IntoVerb) (version : ℕ) (word : List ℕ) (tokens : List Token)
    (meant : MeantForm) (others : Option MeantForm) → into_verb_in word ≡ found
    → by_into found version tokens others ≡ Some meant
    → (others ≡ Some meant → HasCut version (Word word ∷ tokens) meant)
    → HasCut version (Word word ∷ tokens) meant
by_into_says None version word tokens meant others f e there = there e
by_into_says (Some verb) version word tokens meant others f e there =
    into_says version word verb tokens meant (found_says into_word word INTO_VERBS.now verb f) e

by_kind_says : (found : Option NameKind) (version : ℕ) (word : List ℕ) (tokens : List Token)
    (meant : MeantForm) (others : Option MeantForm) → kind_in word ≡ found
    → by_kind found version tokens others ≡ Some meant
    → (others ≡ Some meant → HasCut version (Word word ∷ tokens) meant)
    → HasCut version (Word word ∷ tokens) meant
by_kind_says None version word tokens meant others f e there = there e
by_kind_says (Some kind) version word tokens meant others f e there =
    declared_says version word kind tokens meant (kind_word_says word kind f) e

-- what tokens are read as is a form of theirs
pub form_says : (version : ℕ) (tokens : List Token) (meant : MeantForm)
    → form_in version tokens ≡ Some meant → HasCut version tokens meant
form_says version (Word word ∷ tokens) meant e =
    by_on_says (on_verb_in word) version word tokens meant _ refl e (λ e.
    by_into_says (into_verb_in word) version word tokens meant _ refl e (λ e.
    by_kind_says (kind_in word) version word tokens meant _ refl e
    (λ e. other_says version word tokens meant e)))
form_says version tokens meant e = absurd cc

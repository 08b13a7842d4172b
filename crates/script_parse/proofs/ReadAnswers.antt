-- What a reading tells of the text and of its lines.
use Rattle.std.proofs.Common.{◌≡◌, ℕ, ◌≤◌, true, false, length, List, Some, None, Result}
use Rattle.std.proofs.Common.{refl, subst}
use Rattle.std.proofs.Math.Path.{fun_ext}
use Rattle.std.proofs.lemmas.Bool.{le-ltb}
use Rattle.pct_ask.specs.Lines.{lines_of}
use Rattle.pct_ask.specs.Tokens.{Token}
use Rattle.pct_ask.specs.NameLists.{place_of}
use Rattle.pct_ask.proofs.laws.Names.{is_name-first}
use Rattle.script_tree.specs.ScriptText.{ScriptText}
use Rattle.script_tree.specs.declared.fault.ScriptFault.{ScriptFault}
use Rattle.script_tree.specs.Forms.{TokenForm, MeantForm, IsFormOf, Means}
use Rattle.script_tree.specs.Lines.{threads_begun}
use Rattle.script_tree.specs.Ranges.{is_out_of_range}
use Rattle.script_tree.specs.Faults.{are_blank}
use Rattle.script_parse.specs.Lawful.{names_lawful, NumbersAreSmall}
use Rattle.script_parse.specs.Saying.{form_in}
use Rattle.script_parse.specs.Reading.{Finder, script_from, read_as_script}
use Rattle.script_parse.proofs.FormSound.{form_says}
use Rattle.script_parse.proofs.Meanings.{by_meaning}
use Rattle.script_parse.proofs.SmallNumbers.{in_range_small}

-- a text is read by where its lines begin their threads
pub read_by : (bytes : List ℕ) (find : Finder) (result : Result ScriptText (ℕ × ScriptFault))
    → length bytes ≤ 1048576 → are_blank (lines_of bytes) ≡ false
    → ((name : List ℕ) → find name ≡ place_of name (threads_begun (lines_of bytes)))
    → script_from find None 1 (lines_of bytes) ≡ result → read_as_script bytes ≡ result
read_by bytes find result small says same e =
    let finders : find ≡ (λ name. place_of name (threads_begun (lines_of bytes))) = fun_ext same in
    rw (le-ltb 1048576 (length bytes) small, says)
    (subst (λ (f : Finder). script_from f None 1 (lines_of bytes) ≡ result)
    finders e)

-- ---- the names of a form that is read

lawful_means : (version : ℕ) (cut : TokenForm) (meant : MeantForm) → Means cut meant
    → IsFormOf version cut → names_lawful meant ≡ true
lawful_means version = by_meaning (λ cut meant. IsFormOf version cut → names_lawful meant ≡ true)
    (record {
      plain = λ kind name of. is_name-first version name of.2;
      valued = λ kind name value of. is_name-first version name of.1;
      thread = λ name of. is_name-first version name of;
      on = λ verb object of. refl;
      into = λ verb reg object of. refl;
      write = λ var value tree of. refl;
      add = λ reg var value tree of. refl;
      cas = λ reg var old new a b of. refl;
      wait = λ waiting mutex of. refl;
      yield = λ of. refl;
      assert = λ test tree of. refl;
      set = λ reg value tree of. refl;
      when = λ test tree of. refl;
      while = λ test tree of. refl;
      end = λ of. refl;
      otherwise = λ of. refl;
    })

-- the names that a line declares are lawful by the first version's keywords
pub lawful_read : (version : ℕ) (tokens : List Token) (meant : MeantForm)
    → form_in version tokens ≡ Some meant → names_lawful meant ≡ true
lawful_read version tokens meant e =
    let has = form_says version tokens meant e in
    lawful_means version has.cut meant has.form.means has.form.of

-- the numbers that a line names are small where they are in range
pub small_read : (version : ℕ) (tokens : List Token) (meant : MeantForm)
    → form_in version tokens ≡ Some meant → is_out_of_range tokens meant ≡ false
    → NumbersAreSmall meant
small_read version tokens meant e h =
    let has = form_says version tokens meant e in
    in_range_small version tokens has.cut meant has.form h

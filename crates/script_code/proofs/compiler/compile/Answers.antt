use Rattle.std.proofs.Common.{◌≡◌, ◌<◌, ◌≤◌, true, length, get_or, arith, sym, ap, subst}
use Rattle.std.specs.List.{list_all}
use Rattle.std.proofs.lemmas.List.{length-map}
use Rattle.script_tree.specs.ScriptParts.{thread_text}
use Rattle.script_tree.specs.ScriptSeen.{plain_script}
use Rattle.script_code.specs.Operations.{operations}
use Rattle.script_code.specs.Placed.{is_listing}
use Rattle.script_code.specs.CodeOf.{IsCodeOf}
use Rattle.script_code.proofs.Threads.{few_statements, few_threads, listings_all}
use Rattle.script_code.proofs.Whole.{all_listed, length-code_from, is_code_of}
use Rattle.script_code.proofs.compiler.compile.Goals as goal

pub compile_thread-requires : goal.compile_thread-requires
compile_thread-requires c =
    let script = c.args.script.now in
    let items = c.deref-text-items.ensures.value in
    let th = c.text-item.result in
    let below : c.loop-t.t < length script.threads.items =
    subst (λ l. c.loop-t.t < length l) items c.loop-t-test.true in
    few_statements script c.loop-t.t th script.sound below
    (subst (λ l. th ≡ get_or l c.loop-t.t th) items c.text-item.is)

pub invariant_of-result : goal.invariant_of-result
invariant_of-result c =
    let script = c.args.script.now in
    let past : length script.threads.items ≤ c.loop-t.t =
    subst (λ l. length l ≤ c.loop-t.t) c.deref-text-items.ensures.value c.loop-t-test.false in
    let all = listings_all script c.loop-t.threads c.loop-t.t past c.loop-t.invariant in
    let n = length-code_from (plain_script script) 0 (plain_script script).threads in
    record {
      few =
          omega (
            arith,
            few_threads script script.sound,
            ap length all,
            length-map c.loop-t.threads operations,
            length-map script.threads.items thread_text,
          );
      placed =
          subst (λ l. list_all is_listing l ≡ true) (sym all)
          (all_listed (plain_script script) script.sound);
    }

pub returns : goal.returns
returns c =
    let script = c.args.script.now in
    let past : length script.threads.items ≤ c.loop-t.t =
    subst (λ l. length l ≤ c.loop-t.t) c.deref-text-items.ensures.value c.loop-t-test.false in
    subst (IsCodeOf (plain_script script)) (sym
    (listings_all script c.loop-t.threads c.loop-t.t past c.loop-t.invariant))
    (is_code_of (plain_script script))

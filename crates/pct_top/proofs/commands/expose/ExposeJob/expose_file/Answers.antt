use Rattle.std.proofs.Common.{ℕ, List, Some, Err, subst, take}
use Rattle.pct_ask.specs.NameLists.{NameLists}
use Rattle.script_tree.specs.ScriptSeen.{plain_script}
use Rattle.directive.specs.declared.directive.Directive.{Directive}
use Rattle.pct_top.specs.Ordered.{NamesAll, OrderFits}
use Rattle.pct_top.specs.Printed.{NamedFiles, Printed, directive_bytes, OfDirective}
use Rattle.pct_top.specs.Files.{Misses, GivesDirective, HasDirective}
use Rattle.pct_top.specs.CommandOutput.{printed_of}
use Rattle.pct_top.specs.commands.Expose.{PrintsExposed}
use Rattle.pct_top.proofs.Comes.{directive_refused, directive_shown, ordered, ordered_shown}
use Rattle.pct_top.proofs.commands.expose.ExposeJob.expose_file.Goals as goal

pub returns-in-Err-read_directed-clause-comes : goal.returns-in-Err-read_directed-clause-comes
returns-in-Err-read_directed-clause-comes g c =
    let job = c.args.self.now in
    let test = c.args.test.now in
    let names = (plain_script test.script).names in
    let items = job.order in
    let order = c.in-Ok.order in
    let told = (g.H.Shelf.told c.args.shelf.now).files in
    let file = c.args.directive.now in
    let failed = (g.H.Shelf.told c.args.shelf.now).failed in
    let missed : Type 0 = Misses (Some file) failed (g.H.Shelf.told c.read_directed.new.shelf).failed in
    let N : NameLists → Type 0 = λ known. NamesAll known c.as_slice.result.now order in
    let I : List (List ℕ) → Type 0 = λ its. NamesAll names its order in
    let gives = subst I c.as_slice.ensures (subst N c.names-names.ensures c.in-Ok.ensures) in
    let Of : List ℕ → Directive → Printed → Type 0 = λ o.
    PrintsExposed (plain_script test.script) test.deal o job.steps job.limit in
    let over : NamedFiles → List ℕ → Printed → Type 0 = λ files o.
    OfDirective (take directive_bytes (files file)) names (Of o) in
    let refusal = c.in-Err-read_directed.refusal in
    let G : NameLists → Type 0 = λ known. GivesDirective told file known missed (Err refusal) in
    ordered told names items job.word over (missed × OrderFits names (Some items)) order gives
    missed (λ m. (m, (order, gives))) (Err refusal)
    (directive_refused told file names (Of order) missed refusal
    (subst G c.names-names.ensures c.in-Err-read_directed.ensures.told))

pub returns-in_ok-exposed_by-in-Ok-read_directed-clause-comes :
    goal.returns-in_ok-exposed_by-in-Ok-read_directed-clause-comes
returns-in_ok-exposed_by-in-Ok-read_directed-clause-comes g c =
    let job = c.args.self.now in
    let test = c.args.test.now in
    let names = (plain_script test.script).names in
    let items = job.order in
    let order = c.in-Ok.order in
    let told = (g.H.Shelf.told c.args.shelf.now).files in
    let file = c.args.directive.now in
    let failed = (g.H.Shelf.told c.args.shelf.now).failed in
    let missed : Type 0 = Misses (Some file) failed (g.H.Shelf.told c.read_directed.new.shelf).failed in
    let N : NameLists → Type 0 = λ known. NamesAll known c.as_slice.result.now order in
    let I : List (List ℕ) → Type 0 = λ its. NamesAll names its order in
    let gives = subst I c.as_slice.ensures (subst N c.names-names.ensures c.in-Ok.ensures) in
    let Of : List ℕ → Directive → Printed → Type 0 = λ o.
    PrintsExposed (plain_script test.script) test.deal o job.steps job.limit in
    let over : NamedFiles → List ℕ → Printed → Type 0 = λ files o.
    OfDirective (take directive_bytes (files file)) names (Of o) in
    let plan = c.in-Ok-read_directed.directive in
    let H : NameLists → Type 0 = λ known. HasDirective told file known plan in
    let printed = printed_of c.in_ok-exposed_by-in-Ok-read_directed.field-0 in
    ordered_shown told names items job.word over (missed × OrderFits names (Some items)) order
    gives printed
    (directive_shown told file names (Of order) missed plan printed
    (subst H c.names-names.ensures c.in-Ok-read_directed.ensures.told)
    c.in_ok-exposed_by-in-Ok-read_directed.ensures)

use Rattle.std.proofs.Common.{List, length, sym, ap, subst, ◌∙◌, arith}
use Rattle.std.proofs.lemmas.Option.{slice_get_within}
use Rattle.worker_run.specs.Batches.{AreSeats, AreServedTasks, AreTold, IsThere, Holds, ToldAt}
use Rattle.worker_run.specs.declared.batch.RunningTest.{RunningTest}
use Rattle.worker_run.specs.declared.batch.Share.{Share}
use Rattle.worker_run.specs.declared.batch.Task.{Task}
use Rattle.worker_run.proofs.Ends.{written}
use Rattle.worker_run.proofs.Joins.{told-last, told-without}
use Rattle.worker_run.proofs.workers.+without.Goals as goal

pub go_without-returns : goal.go_without-returns
go_without-returns g t c =
    let f = g.B.Body.pending in
    let u = c.args.thread in
    let tests = c.args.tests.now.items in
    let all = c.serve_lists-all.result in
    let taken = c.take_tasks.new.shares in
    let back = c.take_tasks.new.tasks in
    let last = c.join_tasks.new.shares in
    let seen = c.as_slice.ensures.value in
    let again = c.as_slice-2.ensures.value in
    let w = written c.args.shares.len taken c.args.shares.items
    (omega (
      arith,
      c.take_tasks.ensures.shares.long,
      ap length seen,
      c.requires.shares.long,
      c.args.shares.ok.0,
    )) in
    let wp = written c.args.tasks.len back c.args.tasks.items
    (omega (
      arith,
      c.take_tasks.ensures.served.long,
      ap length seen,
      c.requires.tasks.long,
      c.args.tasks.ok.0,
    )) in
    let Q : List (Share g.row.P.Denot g.row.B.Denot g.P.Policy) → Type 0 =
    λ l. AreTold f tests l c.args.lists.items all.items in
    let told = subst Q w c.serve_lists-all.ensures in
    let wl = written all.len last all.items
    (omega (
      arith,
      c.join_tasks.ensures.seats.long,
      ap length again,
      told.seats.long,
      all.ok.0,
    )) in
    let same = c.as_mut_slice-4.ensures.value ∙ wp in
    let S : List (RunningTest g.row.P.Denot g.row.B.Denot)
    × List (Share g.row.P.Denot g.row.B.Denot g.P.Policy) → Type 0 = λ p. AreSeats p.0 p.1 in
    let A : List (RunningTest g.row.P.Denot g.row.B.Denot)
    × List (Task g.row.P.Denot g.row.B.Denot g.P.Policy) → Type 0 =
    λ p. AreServedTasks f p.0 u p.1 in
    let served = subst A (λ j. ((seen ∙ sym again) j, sym same j)) c.take_tasks.ensures.served in
    told-without f tests c.args.shares.items c.args.lists.items u c.args.tasks.items back taken
    all.items _
    (λ i n h. let H : List (Share g.row.P.Denot g.row.B.Denot g.P.Policy) → Type 0 =
    λ l. Holds l i n in c.take_tasks.ensures.kept i n
    (subst H (sym c.as_mut_slice.ensures.value) h))
    (λ i there. let I : List (Task g.row.P.Denot g.row.B.Denot g.P.Policy) → Type 0 =
    λ l. IsThere l i in c.take_tasks.ensures.taken i
    (subst I (sym c.as_mut_slice-2.ensures.value) there))
    told
    (subst S (λ j. (again j, sym wl j)) c.join_tasks.ensures.seats)
    (λ i n was. let T : List (RunningTest g.row.P.Denot g.row.B.Denot)
    × List (Share g.row.P.Denot g.row.B.Denot g.P.Policy) → Type 0 = λ p. ToldAt f p.0 p.1 i n in
    subst T (λ j. (again j, sym wl j))
    (c.join_tasks.ensures.kept i n (subst T
    (λ j. (sym again j, sym c.as_mut_slice-3.ensures.value j)) was)))
    (λ i there.
    let T : List (RunningTest g.row.P.Denot g.row.B.Denot)
    × List (Share g.row.P.Denot g.row.B.Denot g.P.Policy) → Type 0 = λ p. ToldAt f p.0 p.1 i u in
    let I : List (Task g.row.P.Denot g.row.B.Denot g.P.Policy) → Type 0 = λ l. IsThere l i in
    subst T (λ j. (again j, sym wl j))
    (c.join_tasks.ensures.joined i u served (subst I (sym same) there)))

pub serve_lists-returns-in-None : goal.serve_lists-returns-in-None
serve_lists-returns-in-None g t c =
    let f = g.B.Body.pending in
    let new = c.serve_shares.new.shares in
    let w = written c.args.shares.len new c.args.shares.items
    (omega (
      arith,
      c.serve_shares.ensures.seats.long,
      ap length c.as_slice.ensures.value,
      c.requires.shares.long,
      c.args.shares.ok.0,
    )) in
    let S : List (RunningTest g.row.P.Denot g.row.B.Denot)
    × List (Share g.row.P.Denot g.row.B.Denot g.P.Policy) → Type 0 = λ p. AreSeats p.0 p.1 in
    record {
      seats = subst S (λ j. (c.as_slice.ensures.value j, sym w j)) c.serve_shares.ensures.seats;
      held = λ i u h.
          let T : List (RunningTest g.row.P.Denot g.row.B.Denot)
          × List (Share g.row.P.Denot g.row.B.Denot g.P.Policy) → Type 0 =
          λ p. ToldAt f p.0 p.1 i u in
          let H : List (Share g.row.P.Denot g.row.B.Denot g.P.Policy) → Type 0 = λ l. Holds l i u in
          subst T (λ j. (c.as_slice.ensures.value j, sym w j))
          (c.serve_shares.ensures.told i u (subst H (sym c.as_mut_slice.ensures.value) h));
      listed =
          λ i u p. absurd (let under = slice_get_within c.args.lists.items u p.tasks p.at in
          omega (arith, under, c.in-None.ensures.cases.0, c.args.lists.ok.0));
    }

pub serve_lists-returns-in-Some : goal.serve_lists-returns-in-Some
serve_lists-returns-in-Some g t c =
    told-last g.B.Body.pending c.args.tests.now.items c.args.shares.items c.pop.new.self.items
    c.in-Some.tasks c.args.lists.items c.go_without.result.items _
    (omega (arith, c.len-thread.ensures, c.pop.new.self.ok.0)) c.in-Some.ensures.items
    c.go_without.ensures

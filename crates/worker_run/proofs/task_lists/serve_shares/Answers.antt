use Rattle.std.proofs.Common.{◌≡◌, ◌<◌, ◌≤◌, ℕ, length, set, get_or, refl, sym, ap, subst, ◌∙◌}
use Rattle.std.proofs.Common.{arith, inl, inr}
use Rattle.std.specs.Prelude.{slice_get}
use Rattle.std.proofs.lemmas.Bool.{cases_eq}
use Rattle.std.proofs.lemmas.List.{length-set}
use Rattle.std.proofs.lemmas.Option.{slice_get-get_or, slice_get_read, slice_get_within}
use Rattle.turn_lock.specs.Rule.{Serves}
use Rattle.turn_lock.specs.Views.{view}
use Rattle.worker_run.specs.Batch.{IsSeatOf}
use Rattle.worker_run.specs.Batches.{ToldAt}
use Rattle.worker_run.specs.declared.batch.Share.{Share}
use Rattle.worker_run.proofs.Eachs.{one-item}
use Rattle.worker_run.proofs.Loops.{below-set, below-all, rest-set, told-new, told-other}
use Rattle.worker_run.proofs.task_lists.serve_shares.Goals as goal

pub loop-index-init : goal.loop-index-init
loop-index-init g c = record {
  long = refl;
  rest = λ i above. refl;
  seats = λ i s w below here there. absurd (omega arith);
  told = λ i t below h. absurd (omega arith);
}

pub serve_share-requires-clause-share : goal.serve_share-requires-clause-share
serve_share-requires-clause-share g c = λ κs lives.
    let k = c.loop-index.index in
    let shares = c.loop-index.shares in
    let tests = c.args.tests.now in
    let test = c.index-tests-index.result in
    let share = get_or shares k c.index-shares-index.result in
    let under : k < length tests = c.loop-index-test.true in
    let here = slice_get_read tests (length tests) k test refl under c.index-tests-index.is in
    let within : k < length shares = omega
    (arith, c.loop-index.invariant.long, c.requires.shares.long) in
    let there = slice_get-get_or shares k c.index-shares-index.result within in
    c.requires.shares.each k test share here
    (sym (c.loop-index.invariant.rest k (omega arith)) ∙ there)

pub loop-index-preserved : goal.loop-index-preserved
loop-index-preserved g c =
    let f = g.B.Body.pending in
    let k = c.loop-index.index in
    let i = c.loop-index.invariant in
    let first = c.args.shares.now in
    let shares = c.loop-index.shares in
    let tests = c.args.tests.now in
    let test = c.index-tests-index.result in
    let share = get_or shares k c.index-shares-index.result in
    let new = c.serve_share.new.share in
    let under : k < length tests = c.loop-index-test.true in
    let here = slice_get_read tests (length tests) k test refl under c.index-tests-index.is in
    let within : k < length shares = omega (arith, i.long, c.requires.shares.long) in
    let there = slice_get-get_or shares k c.index-shares-index.result within in
    record {
      long = length-set shares k new ∙ i.long;
      rest = rest-set first shares k new i.rest;
      seats = below-set (λ s w. IsSeatOf s.lock.now w.seat) tests shares k test new within here
          c.serve_share.ensures.seat i.seats;
      told = λ j t below h. elim (cases_eq j k) [
        | inl same ↦
            let mine : h.share ≡ share = one-item first k h.share share
            (ap (slice_get first) (sym same) ∙ h.at) (sym (i.rest k (omega arith)) ∙ there) in
            let S : Share g.row.P.Denot g.row.B.Denot g.P.Policy → Type 0 =
            λ w. Serves (view w.seat) t in
            let T : ℕ → Type 0 = λ n. ToldAt f tests (set shares k new) n t in
            subst T (sym same) (told-new shares k share new there f tests test here t
            (c.serve_share.ensures.told t (subst S mine h.serves)))
        | inr apart ↦ told-other shares k share new there f tests test here j t apart
            (i.told j t (omega (arith, apart)) h)
      ];
    }

pub returns : goal.returns
returns g c =
    let i = c.loop-index.invariant in
    let tests = c.args.tests.now in
    let all : length tests ≤ c.loop-index.index = c.loop-index-test.false in
    record {
      seats = below-all (λ s w. IsSeatOf s.lock.now w.seat) tests c.loop-index.shares
          c.loop-index.index all i.seats (i.long ∙ c.requires.shares.long);
      told =
          λ j t h. i.told j t (let under = slice_get_within c.args.shares.now j h.share h.at in
          omega (arith, all, c.requires.shares.long, under)) h;
    }

use Rattle.std.proofs.Common.{◌<◌, ℕ, length, set, sym, ap, subst, ◌∙◌, arith}
use Rattle.std.proofs.Common.{inl, inr}
use Rattle.std.specs.Int.{bit_at}
use Rattle.std.proofs.lemmas.Bool.{cases_eq}
use Rattle.std.proofs.lemmas.List.{get_or-set_other, get_or-set_same, length-set}
use Rattle.policy_pick.specs.declared.chance.Chance.TheVariants.{Ended}
use Rattle.policy_pick.specs.Choice.{chance_of}
use Rattle.turn_book.specs.Chances.{chance}
use Rattle.turn_book.specs.Board.{concerns, next_posts_of, LockOne}
use Rattle.turn_book.proofs.Joined.{others-alone}
use Rattle.turn_book.proofs.Lockers.{bit-one, fresh-unlocked, lock-one, opens-again, opens-alone}
use Rattle.turn_book.proofs.Lockers.{others-unlocked}
use Rattle.turn_book.proofs.Waiters.{never-set}
use Rattle.turn_book.proofs.known.look_again.Goals as goal

pub open_alike-may_lock-requires-clause-alike : goal.open_alike-may_lock-requires-clause-alike
open_alike-may_lock-requires-clause-alike c =
    let P : ℕ → Type 0 = LockOne c.args.posts.now in
    subst P (sym c.lockers_at-alike.ensures)
    (lock-one c.args.posts.now c.args.lockers.now c.requires.lockers c.args.touched)

pub look_at_waiters-requires-clause-as_many : goal.look_at_waiters-requires-clause-as_many
look_at_waiters-requires-clause-as_many c =
    let one = chance c.args.store.now (next_posts_of c.args.posts.now) c.args.thread in
    ap length c.look_at.ensures ∙ length-set c.args.known.now c.args.thread one
    ∙ c.requires.as_many

pub returns-in-Nothing-clause-opens : goal.returns-in-Nothing-clause-opens
returns-in-Nothing-clause-opens c = λ earlier were.
    let t : ℕ = c.args.thread in
    let next = next_posts_of c.args.posts.now in
    let nobody = c.requires.joined c.if-not-joined.true in
    opens-alone c.args.store.now c.args.posts.now t c.args.waiters c.args.touched c.args.known.now
    earlier were (λ u apart. ap (λ o. concerns t o u (next u)) c.in-Nothing.is
    ∙ others-alone t u (next u) apart (nobody u))

pub returns-in_default-clause-chances : goal.returns-in_default-clause-chances
returns-in_default-clause-chances c = λ stale is others u within fresh.
    let store = c.args.store.now in
    let posts = c.args.posts.now in
    let lockers = c.args.lockers.now in
    let next = next_posts_of posts in
    let t : ℕ = c.args.thread in
    let was = c.args.known.now in
    let one = chance store next t in
    let there : t < length was = omega (arith, c.requires.thread, c.requires.as_many) in
    let small : u < 64 = omega (arith, within, c.requires.few) in
    elim (cases_eq (bit_at c.args.waiters u) 0) [
      | inl idle ↦
          c.look_at_waiters.ensures.others u small idle
          ∙ ap (λ cs. chance_of cs u) c.look_at.ensures ∙ elim (cases_eq u t) [
            | inl same ↦
                ap (chance_of (set was t one)) same
                ∙ get_or-set_same was t one Ended there
                ∙ ap (chance store next) (sym same)
            | inr apart ↦
                get_or-set_other was t u one Ended apart
                ∙ others u within fresh
                (others-unlocked posts lockers c.requires.lockers t c.args.touched u small apart
                (never-set store.threads posts c.args.waiters u c.requires.waiters small idle)
                (fresh-unlocked posts lockers c.requires.lockers stale c.args.touched is u small
                fresh))
          ]
      | inr waits ↦ c.look_at_waiters.ensures.looked u small (bit-one c.args.waiters u waits)
    ]

pub returns-in_default-clause-opens : goal.returns-in_default-clause-opens
returns-in_default-clause-opens c = λ earlier were.
    let t : ℕ = c.args.thread in
    let was = c.args.known.now in
    let one = chance c.args.store.now (next_posts_of c.args.posts.now) t in
    let alike = c.lockers_at-alike.ensures in
    opens-again c.args.store.now c.args.posts.now t c.args.waiters c.args.touched was earlier were
    c.args.lockers.now c.look_at.new.known c.open_alike-may_lock.result c.look_at_waiters.result
    c.requires.few c.requires.waiters c.requires.lockers
    (λ u apart. ap (λ cs. chance_of cs u) c.look_at.ensures
    ∙ get_or-set_other was t u one Ended apart)
    (λ u small bit goes. c.open_alike-may_lock.ensures u small
    (ap (λ w. bit_at w u) alike ∙ bit) goes ∙ alike)
    c.look_at_waiters.ensures.opens

-- A book before the first post.
use Rattle.std.proofs.Common.{◌≡◌, ℕ, ◌<◌, ◌≤◌, eqb, Option, Some, None}
use Rattle.std.proofs.Common.{List, [], length, replicate, refl}
use Rattle.std.proofs.Common.{sym, ap, subst, ◌∙◌, arith, inl, inr}
use Rattle.std.specs.Prelude.{slice_get}
use Rattle.std.specs.List.{All}
use Rattle.std.proofs.lemmas.List.Elements.{All-get_or}
use Rattle.std.proofs.lemmas.Option.{slice_get_within, get_or_from_slice_get}
use Rattle.std.proofs.lemmas.Bool.{false≢true}
use Rattle.std.proofs.lemmas.List.{length-replicate}
use Rattle.pct_ask.specs.declared.ask.Post.{Post}
use Rattle.pct_ask.specs.declared.Deal.{Deal}
use Rattle.pct_ask.specs.declared.event.Event.{Event}
use Rattle.pct_ask.specs.Objects.{Sizes, sizes_of_deal}
use Rattle.sync_store.specs.Store.{StoreState, sizes_of, first_store}
use Rattle.policy_pick.specs.declared.chance.Chance.{Chance}
use Rattle.policy_pick.specs.declared.chance.Chance.TheVariants.{Away}
use Rattle.policy_pick.specs.declared.chance.Pick.{Pick}
use Rattle.policy_pick.specs.declared.chance.Pick.TheVariants.{Thread, Waits, Nobody, Departs}
use Rattle.policy_pick.specs.Plan.{Plan, ByPoints, ByMoments, ByList, SpeaksOf}
use Rattle.policy_pick.specs.Choice.{choice, choice_by_list, choice_by_number, chance_of, is_open}
use Rattle.policy_pick.specs.Choice.{pick_at, MayDepart}
use Rattle.policy_pick.specs.Laws.Finds.{found-or-none}
use Rattle.policy_pick.specs.Laws.Walks.{open_at, number-stops, number-ends}
use Rattle.turn_book.specs.Chances.{is_unknown, is_ended, chance_of_post}
use Rattle.turn_book.specs.Chances.{chances, rest_verdict}
use Rattle.turn_book.specs.Obeys.{outcome_by_pick}
use Rattle.turn_book.specs.Board.{BoardState, next_posts_of}
use Rattle.turn_book.specs.Kept.{IsAt, IsKept}
use Rattle.turn_book.proofs.laws.MorePosts.{chosen-ready, nobody-closed, departs-may}
use Rattle.turn_book.proofs.Boards.{chance-at, length-chances, nothing-posted}
use Rattle.turn_book.proofs.laws.ObeyingSteps.{obeys-none}
use Rattle.turn_book.proofs.Books.{source, settled-now}

module _ (plan : Plan) (schedule : List ℕ) (all : List Chance) (some : 1 ≤ length all)
    (away : (t : ℕ) → t < length all → chance_of all t ≡ Away) where
  number-waits : (u : ℕ) → choice_by_number all ≡ Departs u → ⊥
  number-waits u e = elim (found-or-none (open_at all) (length all)) [
    | inl w ↦ let both =
        sym e ∙ number-stops all w.0 w.1 ∙ ap (pick_at (Departs w.0) w.0) (away w.0 w.2.within) in
        cc
    | inr w ↦ let both = sym e ∙ number-ends all w.0 in cc
  ]

  list-waits : (next : Option ℕ) (u : ℕ) → ((t : ℕ) → next ≡ Some t → t < length all)
      → choice_by_list next all ≡ Departs u → ⊥
  list-waits None u within e = number-waits u e
  list-waits (Some t) u within e =
      let both = sym e ∙ ap (pick_at (Thread t) t) (away t (within t refl)) in cc

  first-listed : (listed : List ℕ) (k t : ℕ) → All (λ u. u < length all) listed
      → slice_get listed k ≡ Some t → t < length all
  first-listed listed k t each e =
      let within = slice_get_within listed k t e in
      let at = get_or_from_slice_get listed k t 0 e in
      let low = All-get_or (λ u. u < length all) listed k 0 within each in
      omega arith

  plan-waits : (p : Plan) (u : ℕ) → SpeaksOf p (length all) → MayDepart p
      → choice p schedule all ≡ Departs u → ⊥
  plan-waits (ByPoints order points) u speaks may e = may
  plan-waits (ByMoments order moments) u speaks may e = may
  plan-waits (ByList listed) u speaks may e =
      list-waits (slice_get listed (length schedule)) u
      (λ t at. first-listed listed (length schedule) t speaks.1 at) e

  waits-by : (pick : Pick) → SpeaksOf plan (length all) → choice plan schedule all ≡ pick
      → (u : ℕ) × (pick ≡ Waits u)
  waits-by (Thread t) speaks e =
      absurd (let ready = chosen-ready plan schedule all t speaks e in
      let both = sym (away t ready.0) ∙ ready.1 in cc)
  waits-by (Waits u) speaks e = (u, refl)
  waits-by Nobody speaks e =
      absurd (false≢true (sym (nobody-closed plan schedule all speaks e 0 some)
      ∙ ap is_open (away 0 some)))
  waits-by (Departs u) speaks e =
      absurd (plan-waits plan u speaks (departs-may plan schedule all u speaks e) e)

  -- where no thread has posted, the choice waits
  pub first-waits : SpeaksOf plan (length all) → (u : ℕ) × (choice plan schedule all ≡ Waits u)
  first-waits speaks = waits-by (choice plan schedule all) speaks refl

pub kept-new : (deal : Deal) (limit : ℕ) (plan : Plan) (board : BoardState) (next : Pick)
    (events : List Event) (reserved : ℕ) → board ≡ record {
      store = first_store deal;
      posts = replicate deal.threads None;
    }
    → sizes_of board.store ≡ sizes_of_deal deal
    → SpeaksOf plan deal.threads → 1 ≤ limit → limit ≤ 100000 → limit ≤ reserved → events ≡ []
    → next ≡ choice plan [] (chances (board.store).threads board.store
    (next_posts_of board.posts)) → IsKept deal limit plan board events next None reserved
kept-new deal limit plan board next events reserved is sizes speaks some few room none picks =
    let store = ap (λ (b : BoardState). b.store) is in
    let posts = ap (λ (b : BoardState). b.posts) is in
    let threads : (board.store).threads ≡ deal.threads = ap (λ (s : Sizes). s.threads) sizes in
    let Kept : List Event → Type 0 = λ es. IsKept deal limit plan board es next None reserved in
    let at : IsAt deal (source plan deal board []) [] board = record {
      verdict = None;
      world = ap (λ (s : StoreState).
          Some (record { store = s; events = []; verdict = None })) (sym store);
    } in
    let all = chances deal.threads board.store (next_posts_of board.posts) in
    let long = length-chances deal.threads board.store (next_posts_of board.posts) in
    let Speaks : ℕ → Type 0 = SpeaksOf plan in
    let unposted : (t : ℕ) → next_posts_of board.posts t ≡ None =
    λ t. ap (λ ps. next_posts_of ps t) posts ∙ nothing-posted deal.threads t in
    let away : (t : ℕ) → t < length all → chance_of all t ≡ Away = λ t within.
    chance-at deal.threads board.store (next_posts_of board.posts) t (omega arith)
    ∙ ap (chance_of_post board.store (is_unknown (next_posts_of board.posts))
    (is_ended (next_posts_of board.posts)) t) (unposted t) in
    let waits = first-waits plan [] all (omega (arith, deal.some_thread)) away
    (subst Speaks (sym long) speaks) in
    let rest = rest_verdict deal.threads board.store (next_posts_of board.posts) in
    subst Kept (sym none) (record {
      sizes = sizes;
      threads =
          ap length posts ∙ (let nothing : Option Post = None in
          length-replicate deal.threads nothing);
      speaks = speaks;
      some_steps = some;
      few_steps = few;
      room = room;
      at = at;
      obeys = obeys-none plan deal (source plan deal board []) limit;
      outcome =
          sym (settled-now plan deal board [] at limit
          ∙ ap (outcome_by_pick rest (eqb 0 limit)) waits.1);
      pick =
          λ undecided. picks ∙ ap (λ n. choice plan []
          (chances n board.store (next_posts_of board.posts))) threads;
    })

-- What each answer of a call on a book comes to.
use Rattle.std.proofs.Common.{◌≡◌, ◌⊎◌, ℕ, Some, None, Option, refl, sym, ap, ◌∙◌, arith, inl, inr}
use Rattle.std.specs.Prelude.{◌≢◌, pos}
use Rattle.std.specs.Prelude.{IsSome, is_some, Bool, true, false, nat_eq, ◌↔◌}
use Rattle.std.proofs.lemmas.Bool.{false≢true, eqb-true, eq-eqb}
use Rattle.pct_ask.specs.declared.ask.Ask.{Ask}
use Rattle.pct_ask.specs.declared.verdict.Outcome.{Outcome}
use Rattle.policy_pick.specs.declared.chance.Pick.TheVariants.{Thread, Waits}
use Rattle.c_values.specs.declared.ask.PctAsk.{PctAsk}
use Rattle.turn_book.specs.Told.{BookState, choice_of, IsAnswered, IsLawful}
use Rattle.turn_book.specs.declared.taken.Because.{Because}
use Rattle.turn_book.specs.declared.taken.Because.TheVariants.{Away, Turn}
use Rattle.turn_book.specs.Answers.{IsBecause}
use Rattle.pct_c.specs.declared.turn.PctTurn.{PctTurn}
use Rattle.pct_c.specs.Turns.{SaysChoice, MayPost, MayTake, HasTurn, Posts, TakesTurn}
use Rattle.pct_c.specs.Turns.{PostsAndTakes, PostsAndSteps}

-- an outcome that stands isn't none
pub some-none : (o : Option Outcome) → IsSome o → o ≡ None → ⊥
some-none o some none = false≢true (sym (ap is_some none) ∙ some)

pub none-by : (o : Option Outcome) (says : Bool) → says ≡ is_some o → says ≡ false → o ≡ None
none-by None says is not = refl
none-by (Some outcome) says is not = absurd (false≢true (sym not ∙ is))

pub says-turn : (book : BookState) (r : PctTurn) (t : ℕ) → r.choice ≡ 1 → r.thread ≡ t
    → book.outcome ≡ None → choice_of book ≡ Some (Thread t) → SaysChoice book r
says-turn book r t is at running chosen = record {
  its_turn = λ u. (
    (λ w. (running, chosen ∙ (let e : t ≡ u = sym at ∙ w.1 in ap (λ k. Some (Thread k)) e))),
    (λ w. (is, at ∙ (let both = sym chosen ∙ w.1 in cc))),
  );
  waits = λ u. (
    (λ w. absurd (omega (arith, is, w.0))),
    (λ w. absurd (let both = sym chosen ∙ w.1 in cc)),
  );
  over = (
    (λ e. absurd (omega (arith, is, e))),
    (λ some. absurd (some-none book.outcome some running)),
  );
}

pub says-waits : (book : BookState) (r : PctTurn) (t : ℕ) → r.choice ≡ 2 → r.thread ≡ t
    → book.outcome ≡ None → choice_of book ≡ Some (Waits t) → SaysChoice book r
says-waits book r t is at running chosen = record {
  its_turn = λ u. (
    (λ w. absurd (omega (arith, is, w.0))),
    (λ w. absurd (let both = sym chosen ∙ w.1 in cc)),
  );
  waits = λ u. (
    (λ w. (running, chosen ∙ (let e : t ≡ u = sym at ∙ w.1 in ap (λ k. Some (Waits k)) e))),
    (λ w. (is, at ∙ (let both = sym chosen ∙ w.1 in cc))),
  );
  over = (
    (λ e. absurd (omega (arith, is, e))),
    (λ some. absurd (some-none book.outcome some running)),
  );
}

pub says-nothing : (book : BookState) (r : PctTurn) → r.choice ≡ 0 → book.outcome ≡ None
    → ((u : ℕ) → choice_of book ≡ Some (Thread u) → ⊥)
    → ((u : ℕ) → choice_of book ≡ Some (Waits u) → ⊥) → SaysChoice book r
says-nothing book r is running turn waits = record {
  its_turn = λ u. (
    (λ w. absurd (omega (arith, is, w.0))),
    (λ w. absurd (turn u w.1)),
  );
  waits = λ u. (
    (λ w. absurd (omega (arith, is, w.0))),
    (λ w. absurd (waits u w.1)),
  );
  over = (
    (λ e. absurd (omega (arith, is, e))),
    (λ some. absurd (some-none book.outcome some running)),
  );
}

pub posts-over : (t line : ℕ) (n : PctAsk) (r : PctTurn) (s : BookState) → r.status ≡ 4
    → r.answer ≡ pos 0 → SaysChoice s r → IsLawful s → IsSome s.outcome → Posts t line n r s s
posts-over t line n r s is answer choice lawful some = record {
  done = λ z. absurd (omega (arith, is, z));
  over = λ z. some;
  bad = λ z. absurd (omega (arith, is, z));
  statuses = inr (inl is);
  answer = answer;
  stays = λ z. refl;
  choice = choice;
  lawful = lawful;
}

pub posts-bad : (t line : ℕ) (n : PctAsk) (r : PctTurn) (s : BookState) → r.status ≡ 5
    → r.answer ≡ pos 0 → SaysChoice s r → IsLawful s → ((ask : Option Ask) → MayPost s t n ask → ⊥)
    → Posts t line n r s s
posts-bad t line n r s is answer choice lawful none = record {
  done = λ z. absurd (omega (arith, is, z));
  over = λ z. absurd (omega (arith, is, z));
  bad = λ z. none;
  statuses = inr (inr is);
  answer = answer;
  stays = λ z. refl;
  choice = choice;
  lawful = lawful;
}

pub takes-over : (t : ℕ) (r : PctTurn) (s : BookState) → r.status ≡ 4 → r.answer ≡ pos 0
    → SaysChoice s r → IsLawful s → IsSome s.outcome → TakesTurn t r s s
takes-over t r s is answer choice lawful some = record {
  done = λ z. absurd (omega (arith, is, z));
  ended = λ z. absurd (omega (arith, is, z));
  not_yet = λ z. absurd (omega (arith, is, z));
  over = λ z. some;
  bad = λ z. absurd (omega (arith, is, z));
  statuses = inr (inr (inr (inl is)));
  stays = λ z y. (answer, refl);
  choice = choice;
  lawful = lawful;
}

pub takes-bad : (t : ℕ) (r : PctTurn) (s : BookState) → r.status ≡ 5 → r.answer ≡ pos 0
    → SaysChoice s r → IsLawful s → (MayTake s t → ⊥) → TakesTurn t r s s
takes-bad t r s is answer choice lawful none = record {
  done = λ z. absurd (omega (arith, is, z));
  ended = λ z. absurd (omega (arith, is, z));
  not_yet = λ z. absurd (omega (arith, is, z));
  over = λ z. absurd (omega (arith, is, z));
  bad = λ z. none;
  statuses = inr (inr (inr (inr is)));
  stays = λ z y. (answer, refl);
  choice = choice;
  lawful = lawful;
}

pub takes-not-yet : (t : ℕ) (r : PctTurn) (old new : BookState) → r.status ≡ 3
    → r.answer ≡ pos 0 → SaysChoice new r → IsLawful new → MayTake old t → old.outcome ≡ None
    → (HasTurn old t → ⊥) → new ≡ old → TakesTurn t r old new
takes-not-yet t r old new is answer choice lawful may running none same = record {
  done = λ z. absurd (omega (arith, is, z));
  ended = λ z. absurd (omega (arith, is, z));
  not_yet = λ z. (may, running, none);
  over = λ z. absurd (omega (arith, is, z));
  bad = λ z. absurd (omega (arith, is, z));
  statuses = inr (inr (inl is));
  stays = λ z y. (answer, same);
  choice = choice;
  lawful = lawful;
}

-- it isn't the thread's turn, for a reason
pub not-because : (s : BookState) (t : ℕ) (because : Because) → IsBecause s t because
    → HasTurn s t → ⊥
not-because s t (Turn u) why turn =
    why.1 (let both : Some (Thread u) ≡ Some (Thread t) = sym why.0 ∙ turn.1 in cc)
not-because s t (Away u) why turn =
    let both : Some (Waits u) ≡ Some (Thread t) = sym why ∙ turn.1 in cc

-- it is the turn of the thread of whom that is said, and of no other
pub turn-is : (book : BookState) (said : Option ℕ) (u t : ℕ)
    → ((v : ℕ) → (said ≡ Some v) ↔ HasTurn book v) → said ≡ Some u
    → (nat_eq u t ≡ true → HasTurn book t) × (HasTurn book t → nat_eq u t ≡ true)
turn-is book said u t told is = (
  λ e. (told t).0 (is ∙ ap (λ v. Some v) (eqb-true u t e)),
  λ turn. eq-eqb u t (let both = sym is ∙ (told t).1 turn in cc),
)

pub turn-of-none : (book : BookState) (said : Option ℕ) (t : ℕ)
    → ((v : ℕ) → (said ≡ Some v) ↔ HasTurn book v) → said ≡ None
    → (false ≡ true → HasTurn book t) × (HasTurn book t → false ≡ true)
turn-of-none book said t told is = (
  λ e. absurd (false≢true e),
  λ turn. absurd (let both = sym is ∙ (told t).1 turn in cc),
)

-- whether a step ended the run is told by the status
abbrev pub TellsEnd : PctTurn → BookState → Type 0
TellsEnd r new = ((r.status ≡ 0) × (new.outcome ≡ None)) ⊎ ((r.status ≡ 1) × IsSome new.outcome)

pub takes-taken : (t : ℕ) (r : PctTurn) (old new : BookState) → TellsEnd r new
    → SaysChoice new r → IsLawful new → HasTurn old t → IsAnswered old t r.answer new
    → TakesTurn t r old new
takes-taken t r old new (inl running) choice lawful turn taken = record {
  done = λ z. (turn, taken, running.1);
  ended = λ z. absurd (let is = running.0 in omega (arith, is, z));
  not_yet = λ z. absurd (let is = running.0 in omega (arith, is, z));
  over = λ z. absurd (let is = running.0 in omega (arith, is, z));
  bad = λ z. absurd (let is = running.0 in omega (arith, is, z));
  statuses = inl running.0;
  stays = λ z y. absurd (z running.0);
  choice = choice;
  lawful = lawful;
}
takes-taken t r old new (inr over) choice lawful turn taken = record {
  done = λ z. absurd (let is = over.0 in omega (arith, is, z));
  ended = λ z. (turn, taken, over.1);
  not_yet = λ z. absurd (let is = over.0 in omega (arith, is, z));
  over = λ z. absurd (let is = over.0 in omega (arith, is, z));
  bad = λ z. absurd (let is = over.0 in omega (arith, is, z));
  statuses = inr (inl over.0);
  stays = λ z y. absurd (y over.0);
  choice = choice;
  lawful = lawful;
}

-- The post stands, and the thread may take its step, so it did.
pub steps-taken : (t line : ℕ) (n : PctAsk) (p r : PctTurn) (old between new : BookState)
    → Posts t line n p old between → p.status ≡ 0 → HasTurn between t → MayTake between t
    → TakesTurn t r between new → PostsAndSteps t line n r old new
steps-taken t line n p r old between new posts is turn may takes = record {
  done = λ z. (whole, (takes.done z).2);
  ended = λ z. (whole, (takes.ended z).2);
  posted = λ z. absurd (no-two z takes.statuses);
  over = λ z. absurd (some-none between.outcome (takes.over z) turn.0);
  bad = λ z. absurd (takes.bad z may);
  statuses = by-cases takes.statuses;
  answer = λ z y. absurd (none-else z y takes.statuses);
  stays = λ z y x. absurd (none-else z y takes.statuses);
  choice = takes.choice;
  lawful = takes.lawful;
}
  where
    taken : ((r.status ≡ 0) ⊎ ((r.status ≡ 1)
        ⊎ ((r.status ≡ 3) ⊎ ((r.status ≡ 4) ⊎ (r.status ≡ 5)))))
        → IsAnswered between t r.answer new
    taken (inl z) = (takes.done z).1
    taken (inr (inl z)) = (takes.ended z).1
    taken (inr (inr (inl z))) = absurd ((takes.not_yet z).2 turn)
    taken (inr (inr (inr (inl z)))) = absurd (some-none between.outcome (takes.over z) turn.0)
    taken (inr (inr (inr (inr z)))) = absurd (takes.bad z may)

    whole : PostsAndTakes t line n r old new
    whole = record {
      ask = (posts.done is).0;
      may = (posts.done is).1;
      running = (posts.done is).2;
      between = between;
      posted = (posts.done is).3;
      its_turn = turn;
      taken = taken takes.statuses;
    }

    no-two : r.status ≡ 2
        → ((r.status ≡ 0) ⊎ ((r.status ≡ 1) ⊎ ((r.status ≡ 3) ⊎ ((r.status ≡ 4) ⊎ (r.status ≡ 5)))))
        → ⊥
    no-two two (inl z) = omega (arith, two, z)
    no-two two (inr (inl z)) = omega (arith, two, z)
    no-two two (inr (inr (inl z))) = omega (arith, two, z)
    no-two two (inr (inr (inr (inl z)))) = omega (arith, two, z)
    no-two two (inr (inr (inr (inr z)))) = omega (arith, two, z)

    none-else : r.status ≢ 0 → r.status ≢ 1
        → ((r.status ≡ 0) ⊎ ((r.status ≡ 1) ⊎ ((r.status ≡ 3) ⊎ ((r.status ≡ 4) ⊎ (r.status ≡ 5)))))
        → ⊥
    none-else a b (inl z) = a z
    none-else a b (inr (inl z)) = b z
    none-else a b (inr (inr (inl z))) = (takes.not_yet z).2 turn
    none-else a b (inr (inr (inr (inl z)))) = some-none between.outcome (takes.over z) turn.0
    none-else a b (inr (inr (inr (inr z)))) = takes.bad z may

    by-cases : ((r.status ≡ 0) ⊎ ((r.status ≡ 1)
        ⊎ ((r.status ≡ 3) ⊎ ((r.status ≡ 4) ⊎ (r.status ≡ 5)))))
        → ((r.status ≡ 0) ⊎ ((r.status ≡ 1) ⊎ ((r.status ≡ 2) ⊎ ((r.status ≡ 4) ⊎ (r.status ≡ 5)))))
    by-cases (inl z) = inl z
    by-cases (inr (inl z)) = inr (inl z)
    by-cases (inr (inr (inl z))) = absurd ((takes.not_yet z).2 turn)
    by-cases (inr (inr (inr (inl z)))) = absurd (some-none between.outcome (takes.over z) turn.0)
    by-cases (inr (inr (inr (inr z)))) = absurd (takes.bad z may)

-- The post stands, and the thread may not take its step.
pub steps-posted : (t line : ℕ) (n : PctAsk) (p r : PctTurn) (old new : BookState)
    → Posts t line n p old new → p.status ≡ 0 → r.status ≡ 2 → r.answer ≡ pos 0 → SaysChoice new r
    → (HasTurn new t × MayTake new t → ⊥) → PostsAndSteps t line n r old new
steps-posted t line n p r old new posts is two answer choice none = record {
  done = λ z. absurd (omega (arith, two, z));
  ended = λ z. absurd (omega (arith, two, z));
  posted =
      λ z. ((posts.done is).0, (posts.done is).1, (posts.done is).2, (posts.done is).3, none);
  over = λ z. absurd (omega (arith, two, z));
  bad = λ z. absurd (omega (arith, two, z));
  statuses = inr (inr (inl two));
  answer = λ z y. answer;
  stays = λ z y x. absurd (x two);
  choice = choice;
  lawful = posts.lawful;
}

-- No post stands.
pub steps-refused : (t line : ℕ) (n : PctAsk) (r : PctTurn) (old new : BookState)
    → Posts t line n r old new → r.status ≢ 0 → PostsAndSteps t line n r old new
steps-refused t line n r old new posts other = record {
  done = λ z. absurd (other z);
  ended = λ z. absurd (not z posts.statuses);
  posted = λ z. absurd (not-two z posts.statuses);
  over = posts.over;
  bad = posts.bad;
  statuses = by-cases posts.statuses;
  answer = λ z y. posts.answer;
  stays = λ z y x. posts.stays other;
  choice = posts.choice;
  lawful = posts.lawful;
}
  where
    not : r.status ≡ 1 → ((r.status ≡ 0) ⊎ ((r.status ≡ 4) ⊎ (r.status ≡ 5))) → ⊥
    not one (inl z) = omega (arith, one, z)
    not one (inr (inl z)) = omega (arith, one, z)
    not one (inr (inr z)) = omega (arith, one, z)

    not-two : r.status ≡ 2 → ((r.status ≡ 0) ⊎ ((r.status ≡ 4) ⊎ (r.status ≡ 5))) → ⊥
    not-two two (inl z) = omega (arith, two, z)
    not-two two (inr (inl z)) = omega (arith, two, z)
    not-two two (inr (inr z)) = omega (arith, two, z)

    by-cases : ((r.status ≡ 0) ⊎ ((r.status ≡ 4) ⊎ (r.status ≡ 5)))
        → ((r.status ≡ 0) ⊎ ((r.status ≡ 1) ⊎ ((r.status ≡ 2) ⊎ ((r.status ≡ 4) ⊎ (r.status ≡ 5)))))
    by-cases (inl z) = absurd (other z)
    by-cases (inr (inl z)) = inr (inr (inr (inl z)))
    by-cases (inr (inr z)) = inr (inr (inr (inr z)))

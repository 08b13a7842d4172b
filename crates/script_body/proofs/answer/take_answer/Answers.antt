use Rattle.std.proofs.Common.{◌≡◌, ℕ, true, Some, sym, ap, ◌∙◌, subst}
use Rattle.std.specs.Prelude.{slice_get}
use Rattle.script_code.specs.Operations.{operation}
use Rattle.script_code.specs.Listing.{listing}
use Rattle.script_code.specs.Placed.{listing_of, is_end, last_place}
use Rattle.script_code.specs.FlatPosts.{Spot, last_spot, flat_act, flat_pending_from}
use Rattle.script_body.specs.Spots.{spot_of}
use Rattle.script_body.specs.Waiting.{after_act, spot_after}
use Rattle.script_body.proofs.Ends.{pending_at_end}
use Rattle.script_body.proofs.answer.take_answer.Goals as goal

pub returns-in-End-clause-goes_on : goal.returns-in-End-clause-goes_on
returns-in-End-clause-goes_on c answers =
    let code = listing_of (listing c.args.code.now) c.args.thread in
    let old = spot_of c.args.state.now in
    let new = spot_of c.go-in-End.new.self in
    let at_end = c.flat.ensures.flat ∙ ap (λ f. Some (operation f)) c.in-End.is in
    let stays : spot_after code old c.args.value ≡ last_spot code =
    ap (λ o. after_act (flat_act o code old).1 (last_spot code) c.args.value) at_end in
    let place : new.place ≡ last_place code =
    ap (λ (s : Spot). s.place) c.go-in-End.ensures ∙ c.end.ensures.place in
    let ends : is_end (slice_get code new.place) ≡ true =
    subst (λ (k : ℕ). is_end (slice_get code k) ≡ true) (sym place)
    (subst (λ (k : ℕ). is_end (slice_get code k) ≡ true) c.end.ensures.place
    c.end.ensures.end) in
    pending_at_end code new (last_spot code) place ends answers
    ∙ ap (λ s. flat_pending_from code s answers) (sym stays)

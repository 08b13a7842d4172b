-- The body names what there is, whatever it is answered.
use Rattle.std.proofs.Common.{[], ◌∷◌, refl, sym, ap, subst, ◌∙◌}
use Rattle.pct_ask.specs.declared.ask.Post.{Post}
use Rattle.pct_ask.specs.declared.deal.Deal.{Deal}
use Rattle.pct_ask.specs.Objects.{sizes_of_deal, IsInRange, PostIsInRange}
use Rattle.body_kit.specs.Ports.{Home, home_of}
use Rattle.kit_runs.proofs.bodies.BodyProgramProgram.run.Goals as goal

pub loop-init : goal.loop-init
loop-init g c =
    record { home = refl; in_range = c.body-body.ensures (home_of c.args.port.now).deal c.requires }

pub ask-requires : goal.ask-requires
ask-requires g c =
    let i = c.loop.invariant in
    let ask = c.in-Some-ask.ask in
    let deal = (home_of c.args.port.now).deal in
    let named = sym (ap (λ (p : Post). p.ask) c.post-post.ensures) ∙ c.in-Some-ask.is in
    let there = subst (PostIsInRange (sizes_of_deal deal)) named (i.in_range []) in
    record {
      in_range =
          subst (λ (d : Deal). IsInRange (sizes_of_deal d) ask)
          (sym (ap (λ (h : Home). h.deal) i.home)) there;
    }

pub returns-in_err-ask-in-Some-ask : goal.returns-in_err-ask-in-Some-ask
returns-in_err-ask-in-Some-ask g c = c.ask.ensures.home ∙ c.loop.invariant.home

pub loop-preserved : goal.loop-preserved
loop-preserved g c =
    let i = c.loop.invariant in
    let sizes = sizes_of_deal (home_of c.args.port.now).deal in
    record {
      home = c.ask.ensures.home ∙ i.home;
      in_range =
          λ answers. subst (λ (p : Post). PostIsInRange sizes p.ask)
          (sym (c.answer.ensures answers))
          (i.in_range (_ ∷ answers));
    }

pub returns : goal.returns
returns g c = c.loop.invariant.home

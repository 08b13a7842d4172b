-- A reply to a trace of a script names only what the script has.
use Rattle.std.proofs.Common.{◌≡◌, ℕ, List, [], ◌∷◌, ◌++◌, length, get_or, refl, subst, arith}
use Rattle.std.specs.Prelude.{All}
use Rattle.std.proofs.lemmas.List.{length-map, length-append}
use Rattle.std.proofs.Math.ListN.{get_or-map}
use Rattle.pct_ask.specs.NameLists.{NameLists}
use Rattle.pct_ask.specs.VerdictText.{thread_name, named_verdict, HasNames, IsWholeVerdict}
use Rattle.pct_ask.specs.VerdictText.{IsVerdictForm, IsPlace}
use Rattle.pct_ask.specs.declared.Deal.{Deal}
use Rattle.pct_ask.specs.declared.ask.Ask.{Ask}
use Rattle.pct_ask.specs.declared.ask.Ask.TheVariants.{RdLock, WrLock, TryRdLock, TryWrLock}
use Rattle.pct_ask.specs.declared.ask.Ask.TheVariants.{RwUnlock}
use Rattle.pct_ask.specs.declared.event.Event.{Event}
use Rattle.pct_ask.specs.declared.verdict.Verdict.{Verdict}
use Rattle.pct_ask.specs.declared.verdict.Verdict.TheVariants.{Passed, Failed, Stuck, Misuse}
use Rattle.pct_ask.specs.declared.verdict.Verdict.TheVariants.{Fault as Faulted, Cut}
use Rattle.script_tree.specs.ScriptText.{ScriptText}
use Rattle.script_tree.specs.Fitting.{IsScript}
use Rattle.script_tree.specs.DealOf.{IsDealOf}
use Rattle.trace_text.specs.declared.file.TraceFile.{TraceFile}
use Rattle.trace_text.specs.Lawful.{HasObjects, NamesKnown, IsStep}
use Rattle.trace_text.proofs.laws.Objects.{has_objects}
use Rattle.trace_text.specs.Trace.{IsTrace}
use Rattle.replay_run.specs.declared.answer.Written.TheVariants as written
use Rattle.replay_run.specs.declared.answer.Found.TheVariants as found
use Rattle.replay_run.specs.declared.answer.Replayed.{Replayed}
use Rattle.replay_run.specs.declared.answer.Replayed.TheVariants.{Confirmed, Departs}
use Rattle.script_body.specs.Bodies.{bodies_of}
use Rattle.replay_run.specs.Replay.{IsReplay}
use Rattle.pct_top.specs.Runs.{trace_version}
use Rattle.pct_top.specs.commands.KnownReply.{IsKnownStep, IsKnownReply}
use Rattle.pct_top.proofs.KnownRuns.{known-steps, known-run}

-- what is known in a version is known in the second
to_second : (names : NameLists) (version : ℕ) (ask : Ask) → HasObjects names version ask
    → HasObjects names 2 ask
to_second names version (RdLock l) h = (h.0, refl)
to_second names version (WrLock l) h = (h.0, refl)
to_second names version (TryRdLock l) h = (h.0, refl)
to_second names version (TryWrLock l) h = (h.0, refl)
to_second names version (RwUnlock l) h = (h.0, refl)
to_second names version ask h = h

made_known : (names : NameLists) (version : ℕ) (event : Event) → NamesKnown names version event
    → IsKnownStep names event
made_known names version event is = record {
  thread = is.thread;
  line = is.line;
  objects = to_second names version event.ask is.objects;
}

told_known : (names : NameLists) (version : ℕ) (event : Event) → IsStep names version event
    → IsKnownStep names event
told_known names version event is = record {
  thread = is.thread;
  line = is.line;
  objects = to_second names version event.ask (has_objects names version event.ask is.ask);
}

-- an item of a list with a property has it
at-cut : {X : Type 0} (P : X → Type 0) (all before after : List X) (x : X) → All P all
    → all ≡ before ++ x ∷ after → P x
at-cut P all before after x each is =
    let here = subst (All P) is each (length before) x
    (omega (arith, length-append before (x ∷ after))) in
    subst P (after-front before after x) here
  where
    after-front : {X : Type 0} (before after : List X) (x : X)
        → get_or (before ++ x ∷ after) (length before) x ≡ x
    after-front [] after x = refl
    after-front (y ∷ before) after x = after-front before after x

end_whole : (names : NameLists) (verdict : Verdict)
    → IsVerdictForm names (named_verdict names verdict)
    → IsWholeVerdict verdict
end_whole names Passed form = tt
end_whole names (Failed thread line) form = form.1
end_whole names (Stuck places) form =
    let f : ℕ × ℕ → List ℕ × ℕ = λ place. (thread_name names place.0, place.1) in
    let long = length-map places f in (
      omega (arith, form.0, long),
      λ k d within.
          let at = form.1 k (f d) (omega (arith, within, long)) in
          (subst IsPlace (get_or-map f places k d) at).1,
    )
end_whole names (Misuse thread line kind) form = form.1
end_whole names (Faulted thread line kind) form = form.1
end_whole names Cut form = tt

module _ (script : ScriptText) (deal : Deal) (sound : IsScript script) (of : IsDealOf script deal)
    (bytes : List ℕ) (file : TraceFile) (trace : IsTrace bytes script.names file) where
  abbrev names : NameLists
  names = script.names

  told_end : (verdict : Verdict) → file.verdict ≡ verdict → HasNames names verdict
      × IsWholeVerdict verdict
  told_end verdict is = let end = (trace.run).end in
      subst (λ v. HasNames names v × IsWholeVerdict v) is
      (end.threads, end_whole names file.verdict end.form)

  told_step : (before after : List Event) (event : Event) → file.events ≡ before ++ event ∷ after
      → IsKnownStep names event
  told_step before after event is =
      told_known names (file.header).version event
      (at-cut (IsStep names (file.header).version) file.events before after event (trace.run).steps
      is)

  pub known_reply : (reply : Replayed) → IsReplay deal (bodies_of script) file reply
      → IsKnownReply names reply
  known_reply (Confirmed verdict) is = told_end verdict (is.tells).2
  known_reply (Departs step (found.Event e) (written.Event f)) is =
      let at = is.tells in (
        made_known names (trace_version script) e
            (at-cut (NamesKnown names (trace_version script)) is.made at.before at.more e
            (known-steps script deal sound of _ _ is.made is.outcome is.played) at.made_is),
        told_step at.before at.more_told f at.told_is,
      )
  known_reply (Departs step (found.NotEnabled t) (written.Event f)) is = let at = (is.tells).0 in
      (tt, told_step is.made at.more_told f at.told_is)
  known_reply (Departs step (found.Over v) (written.Event f)) is =
      let at = (is.tells).0 in
      let end = (known-run script deal sound of _ _ is.made v is.outcome (is.tells).1
      is.played).end in
      ((end.threads, end.whole), told_step is.made at.more_told f at.told_is)
  known_reply (Departs step (found.Over v) (written.Verdict w)) is =
      let end = (known-run script deal sound of _ _ is.made v is.outcome (is.tells).1
      is.played).end in
      ((end.threads, end.whole), told_end w (is.tells).2)
  known_reply (Departs step (found.Goes t) (written.Verdict w)) is = (tt, told_end w (is.tells).2)
  known_reply (Departs step (found.Goes t) (written.Event f)) is = absurd is.tells
  known_reply (Departs step (found.Event e) (written.Verdict w)) is = absurd is.tells
  known_reply (Departs step (found.NotEnabled t) (written.Verdict w)) is = absurd is.tells

-- What sinks hold beside what is told, and what a put changes of it (this project).
use Rattle.std.specs.Prelude.{◌≡◌, ℕ, List, ◌++◌, Bool, true, false, Result, Ok, Err}
use Rattle.pct_outside.specs.Counter.{one_more}
use Rattle.pct_outside.specs.declared.sinks.SinkError.{SinkError}
use Rattle.pct_outside.specs.declared.sinks.SinkError.TheVariants.{Failed, NoMemory}

-- a sink in memory: what was written, its two counts, the numbers of the calls that fail, and how
-- many calls there were
pub record SinkState : Type 0 where
  pub written : List ℕ
  pub faults : ℕ
  pub shorts : ℕ
  pub fails : List ℕ
  pub calls : ℕ

-- a sink in memory that only want of memory stops: what was written, and how often there was none
pub record SureSinkState : Type 0 where
  pub written : List ℕ
  pub shorts : ℕ

-- a sink over a stream, with the bytes that it gathers and its two counts
pub record StreamState (W : Type 0) : Type 0 where
  pub stream : W
  pub gathered : List ℕ
  pub faults : ℕ
  pub shorts : ℕ

-- the answer is Failed exactly where the call is to fail
abbrev pub FailsExactly : {T : Type 0} → Bool → Result T SinkError → Type 0
FailsExactly fails (Ok _) = fails ≡ false
FailsExactly fails (Err Failed) = fails ≡ true
FailsExactly fails (Err NoMemory) = fails ≡ false

-- what was written, after a put with this answer: the whole piece more, or nothing
abbrev pub written_after : {T : Type 0} → List ℕ → List ℕ → Result T SinkError → List ℕ
written_after written piece (Ok _) = written ++ piece
written_after written piece (Err _) = written

-- the count of faults, after a put with this answer
abbrev pub faults_after : {T : Type 0} → ℕ → Result T SinkError → ℕ
faults_after faults (Ok _) = faults
faults_after faults (Err Failed) = one_more faults
faults_after faults (Err NoMemory) = faults

-- the count of wants of memory, after a put with this answer
abbrev pub shorts_after : {T : Type 0} → ℕ → Result T SinkError → ℕ
shorts_after shorts (Ok _) = shorts
shorts_after shorts (Err Failed) = shorts
shorts_after shorts (Err NoMemory) = one_more shorts

-- the sink in memory, after a put with this answer
abbrev pub after_put : {T : Type 0} → SinkState → List ℕ → Result T SinkError → SinkState
after_put sink piece result =
    record {
      written = written_after sink.written piece result;
      faults = faults_after sink.faults result;
      shorts = shorts_after sink.shorts result;
      fails = sink.fails;
      calls = one_more sink.calls;
    }

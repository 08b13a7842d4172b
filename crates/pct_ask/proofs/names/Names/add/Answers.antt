-- A name that is pushed keeps the names lawful and distinct.
use Rattle.std.proofs.Common.{◌∙◌}
use Rattle.pct_ask.specs.declared.names.NameKind.TheVariants.{Thread, Var, Mutex, Cond, Sem}
use Rattle.pct_ask.specs.declared.names.NameKind.TheVariants.{Barrier, RwLock}
use Rattle.pct_ask.proofs.laws.Names.{AreNames-push}
use Rattle.pct_ask.proofs.names.Names.add.Goals as goal

pub invariant_of-self : goal.invariant_of-self
invariant_of-self c =
    AreNames-push Thread c.args.kind _ c.args.self.now c.args.name.now c.from_vec-own.result
    c.try_push.new.self c.in-Thread.is c.self.view_is c.self.invariant c.requires.lawful
    c.requires.fresh c.requires.room (c.from_vec-own.ensures ∙ c.in_ok-from_slice.ensures.items)
    c.in_ok-try_push-in-Thread.ensures.ok

pub invariant_of-self-in_ok-try_push-in-Var : goal.invariant_of-self-in_ok-try_push-in-Var
invariant_of-self-in_ok-try_push-in-Var c =
    AreNames-push Var c.args.kind _ c.args.self.now c.args.name.now c.from_vec-own.result
    c.try_push-in-Var.new.self c.in-Var.is c.self.view_is c.self.invariant c.requires.lawful
    c.requires.fresh c.requires.room (c.from_vec-own.ensures ∙ c.in_ok-from_slice.ensures.items)
    c.in_ok-try_push-in-Var.ensures.ok

pub invariant_of-self-in_ok-try_push-in-Mutex : goal.invariant_of-self-in_ok-try_push-in-Mutex
invariant_of-self-in_ok-try_push-in-Mutex c =
    AreNames-push Mutex c.args.kind _ c.args.self.now c.args.name.now c.from_vec-own.result
    c.try_push-in-Mutex.new.self c.in-Mutex.is c.self.view_is c.self.invariant c.requires.lawful
    c.requires.fresh c.requires.room (c.from_vec-own.ensures ∙ c.in_ok-from_slice.ensures.items)
    c.in_ok-try_push-in-Mutex.ensures.ok

pub invariant_of-self-in_ok-try_push-in-Cond : goal.invariant_of-self-in_ok-try_push-in-Cond
invariant_of-self-in_ok-try_push-in-Cond c =
    AreNames-push Cond c.args.kind _ c.args.self.now c.args.name.now c.from_vec-own.result
    c.try_push-in-Cond.new.self c.in-Cond.is c.self.view_is c.self.invariant c.requires.lawful
    c.requires.fresh c.requires.room (c.from_vec-own.ensures ∙ c.in_ok-from_slice.ensures.items)
    c.in_ok-try_push-in-Cond.ensures.ok

pub invariant_of-self-in_ok-try_push-in-Sem : goal.invariant_of-self-in_ok-try_push-in-Sem
invariant_of-self-in_ok-try_push-in-Sem c =
    AreNames-push Sem c.args.kind _ c.args.self.now c.args.name.now c.from_vec-own.result
    c.try_push-in-Sem.new.self c.in-Sem.is c.self.view_is c.self.invariant c.requires.lawful
    c.requires.fresh c.requires.room (c.from_vec-own.ensures ∙ c.in_ok-from_slice.ensures.items)
    c.in_ok-try_push-in-Sem.ensures.ok

pub invariant_of-self-in_ok-try_push-in-Barrier : goal.invariant_of-self-in_ok-try_push-in-Barrier
invariant_of-self-in_ok-try_push-in-Barrier c =
    AreNames-push Barrier c.args.kind _ c.args.self.now c.args.name.now c.from_vec-own.result
    c.try_push-in-Barrier.new.self c.in-Barrier.is c.self.view_is c.self.invariant
    c.requires.lawful c.requires.fresh c.requires.room
    (c.from_vec-own.ensures ∙ c.in_ok-from_slice.ensures.items)
    c.in_ok-try_push-in-Barrier.ensures.ok

pub invariant_of-self-in_ok-try_push-in-RwLock : goal.invariant_of-self-in_ok-try_push-in-RwLock
invariant_of-self-in_ok-try_push-in-RwLock c =
    AreNames-push RwLock c.args.kind _ c.args.self.now c.args.name.now c.from_vec-own.result
    c.try_push-in-RwLock.new.self c.in-RwLock.is c.self.view_is c.self.invariant
    c.requires.lawful c.requires.fresh c.requires.room
    (c.from_vec-own.ensures ∙ c.in_ok-from_slice.ensures.items)
    c.in_ok-try_push-in-RwLock.ensures.ok

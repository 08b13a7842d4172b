use Rattle.std.proofs.Common.{refl, inl, inr}
use Rattle.lock_order.proofs.held.after.Goals as goal

pub without-kept-requires : goal.without-kept-requires
without-kept-requires c =
    c.requires c.in-Some.mutex (inr ((c.in-Some.ensures c.in-Some.mutex).0 refl))

pub with-requires : goal.with-requires
with-requires c =
    c.requires c.in-Some-taken.mutex (inl ((c.in-Some-taken.ensures c.in-Some-taken.mutex).0 refl))

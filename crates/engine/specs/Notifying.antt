-- Whom a notify or response concerns: the mask of subscriptions, and the number told.
use Rattle.std.specs.Prelude.{◌≡◌, List}
use Rattle.engine.specs.Held.{Text}
use Rattle.engine.specs.Engine.{mask_of, told_of}
use Rattle.engine.specs.declared.subscription.Subscribers.{Subscribers}

pub record Notifies (subscriptions : List Text) (service : Text) (r : Subscribers) : Type 0 where
  pub mask : r.mask ≡ mask_of subscriptions service
  pub told : r.told ≡ told_of subscriptions service

-- What a look at the links tells of the one of an index: whether it is held, and the link.
use Rattle.std.specs.Prelude.{ℕ, ◌≡◌, List, Option, IfSome}
use Rattle.std.specs.Option.{is_some}
use Rattle.engine.specs.Table.{known}
use Rattle.engine.specs.Held.{Link, by_index}
use Rattle.engine.specs.Links.{link_at, any_up, addresses_of}
use Rattle.engine.specs.declared.interface.Interface.{Interface}

pub record LinkIs (index : ℕ) (ls : List Link) (k : Interface) : Type 0 where
  pub same : k.index ≡ index
  pub up : k.up ≡ any_up (link_at index ls)
  pub addresses : k.addresses.items ≡ addresses_of (link_at index ls)

pub record LinkFound (index : ℕ) (ls : List Link) (r : Option Interface) : Type 0 where
  pub known : is_some r ≡ known by_index index ls
  pub link : IfSome r (LinkIs index ls)

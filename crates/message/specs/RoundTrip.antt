-- The round trip: what a `build_*` writes, `parse` reads back to the same kind with the same fields (document 01, 'Messages').
use Rattle.std.specs.Prelude.{ℕ, ◌≡◌, true, List}
use Rattle.std.proofs.Math.Option.{Option, none, some}
use Rattle.text.specs.Good.{good_text}
use Rattle.message.specs.Build.{search_text, response_text, notify_text, byebye_text}
use Rattle.message.specs.Parse.{field_at, parsed}
use Rattle.message.specs.declared.Message.{Message}
use Rattle.message.specs.declared.Message.TheVariants.{NotifyAlive, NotifyByeBye, Search, Response}

-- a message with its fields as texts
pub data Content : Type 0 where
  refused : Content
  alive : (type name location : List ℕ) → Content
  byebye : (type name : List ℕ) → Content
  searching : (target : List ℕ) (seconds : ℕ) → Content
  response : (target name location : List ℕ) → Content

-- the fields that stand at the places of a parsed datagram
abbrev pub content_of : List ℕ → Option Message → Content
content_of s none = refused
content_of s (some (NotifyAlive type name location)) = alive (field_at s type) (field_at s name) (field_at s location)
content_of s (some (NotifyByeBye type name)) = byebye (field_at s type) (field_at s name)
content_of s (some (Search target seconds)) = searching (field_at s target) seconds
content_of s (some (Response target name location)) = response (field_at s target) (field_at s name) (field_at s location)

-- what a datagram says
abbrev pub read : List ℕ → Content
read datagram = content_of datagram (parsed datagram).message

-- for all good texts, the empty one too, whatever their length
pub record RoundTrip : Type 0 where
  pub search-back : (target : List ℕ) → good_text target ≡ true → read (search_text target) ≡ searching target 5
  pub response-back : (target name location : List ℕ) → good_text target ≡ true → good_text name ≡ true → good_text location ≡ true
      → read (response_text target name location) ≡ response target name location
  pub notify-back : (type name location : List ℕ) → good_text type ≡ true → good_text name ≡ true → good_text location ≡ true
      → read (notify_text type name location) ≡ alive type name location
  pub byebye-back : (type name : List ℕ) → good_text type ≡ true → good_text name ≡ true → read (byebye_text type name) ≡ byebye type name

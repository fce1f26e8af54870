-- Which types a search asks for: document 01, '`target_match` and `rewrite_host`'.
use Rattle.std.specs.Prelude.{ℕ, ◌+◌, Bool, false, ◌&&◌, ◌||◌, List, leb, ltb, length, take, drop}
use Rattle.text.specs.Bytes.{bytes, equal, last_index_of}
use Rattle.text.specs.Number.{number, max64}
use Rattle.std.specs.Prelude.{Option, Some, None}

-- the target that every type matches
abbrev pub ssdp_all : List ℕ
ssdp_all = bytes "ssdp:all"

abbrev pub colon : ℕ
colon = 58

-- the place of a type's last colon
abbrev pub last_colon : List ℕ → ℕ
last_colon type = last_index_of colon type

abbrev pub has_colon : List ℕ → Bool
has_colon type = ltb (last_colon type) (length type)

-- what stands before that colon, and the number behind it
abbrev pub base_part : List ℕ → List ℕ
base_part type = take (last_colon type) type

abbrev pub version : List ℕ → Option ℕ
version type = number max64 (drop (last_colon type + 1) type)

-- both are numbers, 'candidate's at least the search's'
abbrev pub at_least : Option ℕ → Option ℕ → Bool
at_least (Some wanted) (Some offered) = leb wanted offered
at_least (Some wanted) None = false
at_least None offered = false

-- 'both split at their last colon with equal left parts and right parts that are 64-bit numbers, candidate's at least the search's'
unfoldable pub version_match : List ℕ → List ℕ → Bool
version_match search candidate =
    has_colon search && has_colon candidate && equal (base_part search) (base_part candidate) && at_least (version search) (version candidate)

-- 'Search matches candidate if the search is `ssdp:all`, or both are equal, or' their versions match
unfoldable pub target_match : List ℕ → List ℕ → Bool
target_match search candidate = equal search ssdp_all || equal search candidate || version_match search candidate

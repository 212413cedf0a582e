-- What AdjustResourceInfo's packets name, ask for and show. Assumes nothing.
use Rattle.std.specs.Prelude.{◌≡◌, ◌⊎◌, ◌≢◌, List, ℕ, ◌+◌, ◌≤◌, ◌<◌, length, set, Option, Some, None, Result, Ok, Err}
use Rattle.facts.specs.declared.Code.{Code}
use Rattle.facts.specs.declared.Code.TheVariants.{BadArgLength, BadArgs}
use Rattle.facts.specs.declared.RangeAsked.{RangeAsked}
use Rattle.facts.specs.declared.Width.{Width}
use Rattle.facts.specs.declared.Width.TheVariants.{Short, Wide}
use Rattle.facts.specs.Table
use Rattle.facts.specs.Resources
use Rattle.facts.specs.Resources.{action_of, resource_of, first, io_adjust_length, base_given, count_given, attributes_given, lines_given, with_range}
use Rattle.facts.specs.Resources.{attributes_at, lines_at}
use Rattle.managed_holders.specs.declared.Holders.{Holders}
use Rattle.managed_packets.specs.declared.Action.{Action}
use Rattle.managed_packets.specs.declared.Action.TheVariants.{Remove, Add, First, Next}

-- an action's number
abbrev pub number_of : Action → ℕ
number_of Remove = Resources.remove
number_of Add = Resources.add
number_of First = Resources.first
number_of Next = Resources.next

-- the byte is the number of an action, or is over 3
abbrev pub ActionIs : ℕ → Result Action Code → Type 0
ActionIs n (Ok a) = n ≡ number_of a
ActionIs n (Err k) = (k ≡ BadArgs) × (3 < n)

-- a packet names an action and a resource, or is too short for them
pub record NamesBoth (p : List ℕ) (action resource : ℕ) : Type 0 where
  pub long : 2 ≤ length p
  pub action_is : action ≡ action_of p
  pub resource_is : resource ≡ resource_of p

abbrev pub HeadIs : List ℕ → Result (ℕ × ℕ) Code → Type 0
HeadIs p (Ok x) = NamesBoth p x.0 x.1
HeadIs p (Err k) = (k ≡ BadArgLength) × (length p < 2)

-- the packet has one of the two widths, or neither
abbrev pub FormIs : List ℕ → Result Width Code → Type 0
FormIs p (Ok w) = length p ≡ io_adjust_length w
FormIs p (Err k) = (k ≡ BadArgLength) × (length p ≢ io_adjust_length Short) × (length p ≢ io_adjust_length Wide)

-- what a packet of a width asks for
pub record AskedIs (w : Width) (p : List ℕ) (r : RangeAsked) : Type 0 where
  pub base_is : r.base ≡ base_given w p
  pub count_is : r.count ≡ count_given w p
  pub attributes_are : r.attributes ≡ attributes_given w p
  pub lines_are : r.lines ≡ lines_given w p

-- First looks from 0 on, Next from the number after the one given
abbrev pub FromIs : ℕ → ℕ → ℕ → Type 0
FromIs action given r = ((action ≡ first) × (r ≡ 0)) ⊎ ((action ≢ first) × (r ≡ given + 1))

-- a range and attributes are written
abbrev pub Written : Width → ℕ → ℕ → ℕ → List ℕ → List ℕ → Type 0
Written w base count attributes p p' =
    p' ≡ set (set (with_range w p base count) (attributes_at w) attributes) (lines_at w) Table.most_lines

-- "the handle answered is then the lowest of the holders' handles, else 0"
abbrev pub attributes_shown_lem : Option Holders → ℕ
attributes_shown_lem (Some x) = x.shown
attributes_shown_lem None = 0

abbrev pub handle_shown_lem : Option Holders → ℕ
handle_shown_lem (Some x) = x.lowest.0
handle_shown_lem None = 0

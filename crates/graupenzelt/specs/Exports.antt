-- What the C functions give: the steps' own answers, field by field. On a refusal every field but number and place is 0.
use Rattle.std.specs.Prelude.{◌≡◌, List, ℕ, length, Result, Ok, Err}
use Rattle.std.specs.declared.cmp.Ordering.{Ordering}
use Rattle.units.specs.declared.Bytes.{Bytes}
use Rattle.units.specs.declared.Size.{Size}
use Rattle.units.specs.declared.refusals.Refusal.{Refusal}
use Rattle.units.specs.Refusals.{success, refused_with, status_of}
use Rattle.opening.specs.declared.headers.Part.{Part}
use Rattle.opening.specs.Opening.{opening_start, opening_length}
use Rattle.framing.specs.Framing.{framing_of, area_after}
use Rattle.lines.specs.Comparing.{Compares, comparison_order}
use Rattle.command.specs.Handling.{Handles}
use Rattle.graupenzelt.specs.declared.OpenReply.{OpenReply}
use Rattle.graupenzelt.specs.declared.Reply.{Reply}
use Rattle.graupenzelt.specs.declared.CheckReply.{CheckReply}
use Rattle.graupenzelt.specs.declared.CompareReply.{CompareReply}

-- Where the payload starts, and how many bytes it has.
unfoldable pub open_reply : Result Part Refusal → OpenReply
open_reply r = record { status = status_of r; start = opening_start r; length = opening_length r }

-- The length of the block that was written, by framing or as an answer.
unfoldable pub block_reply : Result Bytes Refusal → Reply
block_reply (Err r) = record { status = refused_with r; length = 0 }
block_reply (Ok n) = record { status = success; length = n.0 }

pub record FramesInto (p area : List ℕ) (r : Reply) (after : List ℕ) : Type 0 where
  pub answer : r ≡ block_reply (framing_of (length p) (length area))
  pub bytes : after ≡ area_after (framing_of (length p) (length area)) p area

-- The numbers of an accepted table.
unfoldable pub check_reply : Result Size Refusal → CheckReply
check_reply (Err r) = record { status = refused_with r; signals = 0; channels = 0; ranks = 0; pairs = 0 }
check_reply (Ok z) = record { status = success; signals = z.signals; channels = z.channels; ranks = z.ranks; pairs = z.pairs.0 }

-- The order of two lines.
unfoldable pub compare_reply : Result Ordering Refusal → CompareReply
compare_reply r = record { status = status_of r; order = comparison_order r }

pub record ComparesLines (a b : List ℕ) (r : CompareReply) : Type 0 where
  pub found : Result Ordering Refusal
  pub promise : Compares a b found
  pub reply : r ≡ compare_reply found

-- A whole command: its answer, and what it leaves in both lent areas.
pub record HandlesInto (block area work : List ℕ) (r : Reply) (area' work' : List ℕ) : Type 0 where
  pub found : Result Bytes Refusal
  pub promise : Handles block area work found area' work'
  pub reply : r ≡ block_reply found

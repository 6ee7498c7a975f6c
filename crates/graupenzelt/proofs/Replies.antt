-- From the steps' own answers to the replies in C: the fields of a reply are those of the answer (opened, written, checked), and the
-- numbers of a head fit theirs (checked_limits); framing's answer and bytes (frames_into).
use mathlib.Core.Path.{◌≡◌, refl, ap, sym, ◌∙◌}
use mathlib.Core.List.{List}
use native.Mathlib.Omega.{arith}
use Prim.Native.Nat.{ℕ}
use Rattle.std.specs.Prelude.{Result, Ok, Err}
use Rattle.std.specs.Result.{result_unwrap_or}
use Rattle.units.specs.declared.Bytes.{Bytes}
use Rattle.units.specs.declared.Size.{Size}
use Rattle.units.specs.declared.refusals.Refusal.{Refusal}
use Rattle.units.specs.declared.refusals.Status.{Status}
use Rattle.units.specs.Limits.{Limits, size_with}
use Rattle.units.specs.Refusals.{status_of}
use Rattle.opening.specs.declared.headers.Part.{Part}
use Rattle.framing.specs.Framing.{area_after, Frames}
use Rattle.table.specs.Checking.{checked_of}
use Rattle.table.proofs.Acceptance.{accepted_limits}
use Rattle.graupenzelt.specs.declared.OpenReply.{OpenReply}
use Rattle.graupenzelt.specs.declared.Reply.{Reply}
use Rattle.graupenzelt.specs.declared.CheckReply.{CheckReply}
use Rattle.graupenzelt.specs.Exports.{open_reply, block_reply, check_reply, FramesInto}

pub opened : (r : Result Part Refusal) {s : Status} {part : Part} → s ≡ status_of r
    → part ≡ result_unwrap_or r (record { start = 0; length = record { 0 = 0 } })
    → ◌≡◌ {A = OpenReply} (record { status = s; start = part.start; length = part.length.0 }) (open_reply r)
unfolding open_reply
opened (Ok part) says is = rw (says, is) refl
opened (Err r) says is = rw (says, is) refl

pub written : (r : Result Bytes Refusal) {s : Status} {n : Bytes} → s ≡ status_of r → n ≡ result_unwrap_or r (record { 0 = 0 })
    → ◌≡◌ {A = Reply} (record { status = s; length = n.0 }) (block_reply r)
unfolding block_reply
written (Ok n) says is = rw (says, is) refl
written (Err r) says is = rw (says, is) refl

pub checked : (r : Result Size Refusal) {s : Status} {z : Size} {pairs : ℕ} → s ≡ status_of r → z ≡ result_unwrap_or r (size_with 0 0 0 0)
    → pairs ≡ z.pairs.0
    → ◌≡◌ {A = CheckReply} (record { status = s; signals = z.signals; channels = z.channels; ranks = z.ranks; pairs = pairs }) (check_reply r)
unfolding check_reply
checked (Ok z) says is count = rw (says, count, is) refl
checked (Err r) says is count = rw (says, count, is) refl

pub checked_limits : (p : List ℕ) (r : Result Size Refusal) {z : Size} → r ≡ checked_of p → z ≡ result_unwrap_or r (size_with 0 0 0 0) → Limits z
checked_limits p (Ok z) check is = rw is (accepted_limits p (sym check))
checked_limits p (Err r) check is =
    rw is (record { few_signals = omega arith; few_channels = omega arith; few_ranks = omega arith; few_pairs = omega arith })

pub frames_into : {p area after : List ℕ} {f : Result Bytes Refusal} {r : Reply} → Frames p area f after → r ≡ block_reply f
    → FramesInto p area r after
frames_into {p} {area} framed says =
    record { answer = says ∙ ap block_reply framed.answer; bytes = framed.bytes ∙ ap (λ f. area_after f p area) framed.answer }

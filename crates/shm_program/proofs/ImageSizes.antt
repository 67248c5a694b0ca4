-- how long an image without a fault is
use Rattle.std.proofs.Common.{◌≡◌, ℕ, ◌+◌, ◌*◌, ◌<◌, ◌≤◌, Bool, true, false, not, ◌||◌, cond, nat_lt, eqb, List, length, slice_index, arith, refl, Option, Some, None}
use Rattle.std.proofs.lemmas.Bool.Decides.{nat_tests}
use Rattle.std.specs.Option.{option_or}
use Rattle.shm_words.specs.{declared.geometry.Geometry.Geometry, Layout.{GeometryFits, total_of}}
use Rattle.shm_words.proofs.Placing.{total_most_wide}
use Rattle.shm_audit.specs.declared.{fault.ImageFault.ImageFault, verdict.Verdict.Verdict}
use Rattle.shm_audit.specs.Images.{geometry_in, marks, numbers_in, words_in}
use Rattle.shm_audit.specs.Faults.{frame_fault_of, image_fault_of, image_len, is_size, words_fault_of}
use Rattle.shm_audit.specs.declared.fault.ImageFault.TheVariants as fault
use Rattle.shm_migrate.specs.Migrations.{refusal, refusal_of, verdict_in}

first_none : (a b : Option ImageFault) → option_or a b ≡ None → a ≡ None
first_none None b e = refl
first_none (Some x) b e = cc

untaken : (b : Bool) (f : ImageFault) (rest : Option ImageFault) → cond b (Some f) rest ≡ None → (b ≡ false) × (rest ≡ None)
untaken true f rest e = cc
untaken false f rest e = (refl, e)

holds : (b : Bool) → not b ≡ false → b ≡ true
holds true e = refl
holds false e = cc

size_fits : (g : Geometry) → is_size g ≡ true → GeometryFits g
size_fits g e = record { client = grind (arith, nat_tests); clients = grind (arith, nat_tests); segment = grind (arith, nat_tests); segments = grind (arith, nat_tests) }

same : (a b : ℕ) → eqb a b ≡ true → a ≡ b
same a b e = grind (arith, nat_tests)

-- it is as long as the image of a pool of format 2 of 16 clients and 8,000 segments, or shorter
pub image_short : (bytes : List ℕ) → image_fault_of bytes ≡ None → length bytes < 132185377
image_short bytes none =
    let g = geometry_in bytes in
    let frame = first_none (frame_fault_of bytes) (words_fault_of g (words_in bytes)) none in
    let a = untaken (nat_lt (length bytes) 24) (fault.Short (length bytes)) _ frame in
    let b = untaken (not (marks false (slice_index (numbers_in bytes) 0) || marks true (slice_index (numbers_in bytes) 0))) (fault.Magic (slice_index (numbers_in bytes) 0)) _ a.1 in
    let c = untaken (not (is_size g)) (fault.Geometry g.clients g.segments) _ b.1 in
    let d = untaken (not (eqb (length bytes) (image_len g))) (fault.Length (length bytes) (image_len g)) None c.1 in
    let most : total_of g ≤ 16523169 = total_most_wide g (size_fits g (holds (is_size g) c.0)) in
    let long : length bytes ≡ 24 + 8 * total_of g = same (length bytes) (image_len g) (holds (eqb (length bytes) (image_len g)) d.0) in
    omega (arith, long, most)

-- what is migrated has no fault
refused_fault : (fault : Option ImageFault) (wide : Bool) (verdict : Verdict) → refusal fault wide verdict ≡ None → fault ≡ None
refused_fault None wide verdict e = refl
refused_fault (Some f) wide verdict e = absurd cc

pub unrefused : (bytes : List ℕ) → refusal_of bytes ≡ None → image_fault_of bytes ≡ None
unrefused bytes e = refused_fault (image_fault_of bytes) (geometry_in bytes).wide (verdict_in bytes) e

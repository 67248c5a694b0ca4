-- an image that is read as a stream
use Rattle.std.proofs.Common.{◌≡◌, ◌≢◌, ℕ, ◌+◌, ◌-◌, ◌*◌, ◌<◌, ◌≤◌, List, [], ◌++◌, length, length-append, ltb, sym, ap, subst, ◌∙◌, arith}
use Rattle.std.proofs.lemmas.Bool.{cond-true, lt-ltb}
use Rattle.std.specs.{Prelude.{IfErr, IfOk, OnErr, None, Option, Some, Result, Ok, Err}, Option.option_or}
use Rattle.shm_words.specs.{declared.geometry.Geometry.Geometry, Layout.{GeometryFits, bodies, total_of}}
use Rattle.shm_words.proofs.Placing.{total_most_wide}
use Rattle.shm_graph.specs.Spots.{see}
use Rattle.shm_audit.specs.declared.{auditor.Auditor.Auditor, fault.ImageFault.ImageFault, verdict.Verdict.Verdict}
use Rattle.shm_audit.specs.{Faults.{frame_fault_of, image_fault_of, image_len, words_fault_of}, Frames.Announces}
use Rattle.shm_audit.specs.{Images.{geometry_in, numbers_in, words_in}, Streams.Seen, Tallies.AreFrom}
use Rattle.shm_audit.specs.Verdicts.{verdict_of}
use Rattle.shm_audit.specs.declared.fault.ImageFault.TheVariants as fault
use Rattle.shm_audit.proofs.Windows.{frame_words, from_back, from_front, from_self, numbers_append, numbers_in_length}
use Rattle.shm_io.specs.Reading.{LosesFront, TakesFront}
use Rattle.shm_io.proofs.ReadSteps.{TakesFront-short, TakesFront-then}
use Rattle.shm_stream.specs.Audits.{IsJudged, JudgesRest}

-- ---- what is lost

pub loses_less : (a b : Option (List ℕ)) (m limit : ℕ) → m ≤ limit → LosesFront a b m → LosesFront a b limit
loses_less None b m limit le l = l
loses_less (Some left) b m limit le l = (l.0, (let k = l.1 in omega arith), l.2)

-- ---- the faults of images

judged_frame : (image : List ℕ) (f : ImageFault) → frame_fault_of image ≡ Some f → image_fault_of image ≡ Some f
judged_frame image f e = ap (λ o. option_or o (words_fault_of (geometry_in image) (words_in image))) e

pub judged_short : (image : List ℕ) → length image < 24 → image_fault_of image ≡ Some (fault.Short (length image))
judged_short image l = judged_frame image (fault.Short (length image)) (cond-true (ltb (length image) 24) (Some (fault.Short (length image))) _ (lt-ltb _ _ l))

judged_length : (g : Geometry) (image : List ℕ) (n : ℕ) → Announces g image → length image ≡ n → n ≢ image_len g → image_fault_of image ≡ Some (fault.Length n (image_len g))
judged_length g image n a l d = judged_frame image (fault.Length n (image_len g)) (a.other (λ z. d (sym l ∙ z)) ∙ ap (λ k. Some (fault.Length k (image_len g))) l)

judged_words : (g : Geometry) (image ws : List ℕ) → Announces g image → length image ≡ image_len g → words_in image ≡ ws → image_fault_of image ≡ words_fault_of g ws
judged_words g image ws a l w =
    ap (λ o. option_or o (words_fault_of (geometry_in image) (words_in image))) (a.whole l)
    ∙ (ap (λ x. words_fault_of x (words_in image)) a.sizes ∙ ap (words_fault_of g) w)

-- ---- what stands behind the first 24 bytes

pub rest_length : (g : Geometry) (rest : List ℕ) (n : ℕ) → length rest ≡ n → 24 + n ≢ image_len g → JudgesRest g rest (Err (fault.Length (24 + n) (image_len g)))
rest_length g rest n e d = λ image a l w. judged_length g image (24 + n) a (l ∙ ap (λ k. 24 + k) e) d

pub rest_judged : (g : Geometry) (rest ws front : List ℕ) (auditor : Auditor) (r : Result Verdict ImageFault) → numbers_in rest ≡ ws → 24 + length rest ≡ image_len g → AreFrom ws 0 front → Seen g ws (total_of g) auditor
    → IfOk r (λ v. (ws : List ℕ) → AreFrom ws 0 front → Seen g ws (total_of g) auditor → (words_fault_of g ws ≡ None) × (v ≡ verdict_of g (see g ws)))
    → IfErr r (λ f. (ws : List ℕ) → AreFrom ws 0 front → Seen g ws (total_of g) auditor → words_fault_of g ws ≡ Some f) → JudgesRest g rest r
rest_judged g rest ws front auditor (Ok v) e long from seen ok err = λ image a l w.
    let h = ok ws from seen in (
      judged_words g image ws a (l ∙ long) (w ∙ e) ∙ h.0,
      h.1 ∙ sym (ap (λ x. verdict_of x (see x (words_in image))) a.sizes ∙ ap (λ y. verdict_of g (see g y)) (w ∙ e)),
    )
rest_judged g rest ws front auditor (Err f) e long from seen ok err = λ image a l w. judged_words g image ws a (l ∙ long) (w ∙ e) ∙ err ws from seen

-- ---- all of it

abbrev pub Judges : Option (List ℕ) → Option (List ℕ) → Result Verdict ImageFault → Type 0
Judges before after judged = (image : List ℕ) × (length image ≤ 132185377) × TakesFront before after 132185377 image × IsJudged image judged

pub whole_judged : (a b c : Option (List ℕ)) (frame : List ℕ) (g : Geometry) (judged : Result Verdict ImageFault) → length frame ≡ 24 → TakesFront a b 24 frame → ((rest : List ℕ) → Announces g (frame ++ rest))
    → (rest : List ℕ) × (length rest ≤ 132185353) × TakesFront b c 132185353 rest × JudgesRest g rest judged → Judges a c judged
whole_judged a b c frame g judged len taken announces r =
    let rest = r.0 in
    let l : length (frame ++ rest) ≡ 24 + length rest = length-append frame rest ∙ ap (λ n. n + length rest) len in
    let few = r.1 in
    (frame ++ rest, omega arith, TakesFront-then a b c 24 132185353 frame rest taken r.2, r.3 (frame ++ rest) (announces rest) l (frame_words frame rest len))

pub whole_faulty : (a b c : Option (List ℕ)) (frame : List ℕ) (f : ImageFault) → length frame ≡ 24 → TakesFront a b 24 frame → ((rest : List ℕ) → frame_fault_of (frame ++ rest) ≡ Some f) → (n : ℕ) → n ≤ 132185353
    → (bytes : List ℕ) × (length bytes ≡ n) × TakesFront b c 132185353 bytes → Judges a c (Err f)
whole_faulty a b c frame f len taken faulty n le r =
    let l : length (frame ++ r.0) ≡ 24 + length r.0 = length-append frame r.0 ∙ ap (λ k. k + length r.0) len in
    let e = r.1 in
    (frame ++ r.0, omega arith, TakesFront-then a b c 24 132185353 frame r.0 taken r.2, judged_frame (frame ++ r.0) f (faulty r.0))

-- ---- segment by segment

-- what an audit knows of the words below n of each pool that begins with these
abbrev pub Fed : Geometry → List ℕ → Auditor → Auditor → ℕ → List ℕ → Type 0
Fed g front before after n read = (ws : List ℕ) → AreFrom ws 0 front → AreFrom ws (bodies g) (numbers_in read) → Seen g ws (bodies g) before → Seen g ws n after

pub fed_none : (g : Geometry) (front : List ℕ) (auditor : Auditor) → Fed g front auditor auditor (bodies g + 2048 * 0) []
fed_none g front auditor ws from read seen = let e : bodies g ≡ bodies g + 2048 * 0 = omega arith in subst (λ n. Seen g ws n auditor) e seen

pub fed_more : (g : Geometry) (front : List ℕ) (before auditor after : Auditor) (k : ℕ) (read piece : List ℕ) → length read ≡ 16384 * k → Fed g front before auditor (bodies g + 2048 * k) read
    → ((ws : List ℕ) → AreFrom ws 0 front → AreFrom ws (bodies g + 2048 * k) (numbers_in piece) → Seen g ws (bodies g + 2048 * k) auditor → Seen g ws (bodies g + 2048 * (k + 1)) after)
    → Fed g front before after (bodies g + 2048 * (k + 1)) (read ++ piece)
fed_more g front before auditor after k read piece len fed step ws from both seen =
    let n = numbers_in_length read in
    let e : numbers_in (read ++ piece) ≡ numbers_in read ++ numbers_in piece = numbers_append (2048 * k) read piece (omega arith) in
    let w = subst (λ (xs : List ℕ). AreFrom ws (bodies g) xs) e both in
    step ws from (from_back ws (numbers_in read) (numbers_in piece) (bodies g) (bodies g + 2048 * k) (omega arith) w) (fed ws from (from_front ws (numbers_in read) (numbers_in piece) (bodies g) w) seen)

-- ---- what is lost, by what was read

pub takes_loses : (a b : Option (List ℕ)) (m limit : ℕ) (taken : List ℕ) → m ≤ limit → TakesFront a b m taken → LosesFront a b limit
takes_loses None b m limit taken le t = t
takes_loses (Some left) b m limit taken le t = (m, le, t.left)

pub on_err : {T E Q : Type 0} (r : Result T E) → Q → OnErr r Q
on_err (Ok x) q = tt
on_err (Err e) q = q

pub on_err_more : {T E P Q : Type 0} (r : Result T E) → (P → Q) → OnErr r P → OnErr r Q
on_err_more (Ok x) h p = p
on_err_more (Err e) h p = h p

pub if_ok_more : {T E : Type 0} (r : Result T E) (P Q : T → Type 0) → ((x : T) → P x → Q x) → IfOk r P → IfOk r Q
if_ok_more (Ok x) P Q h p = h x p
if_ok_more (Err e) P Q h p = p

-- ---- the pieces of an image

-- the words before the bodies and those of the segments stand where they are to
pub two_pieces : (g : Geometry) (front read more part : List ℕ) → length front ≡ 8 * bodies g → length read ≡ 16384 * g.segments → part ≡ numbers_in front
    → AreFrom (numbers_in (front ++ read ++ more)) 0 part × AreFrom (numbers_in (front ++ read ++ more)) (bodies g) (numbers_in read)
two_pieces g front read more part lf lr e =
    let ws = numbers_in (front ++ read ++ more) in
    let l = length-append front read in
    let both : length (front ++ read) ≡ 8 * (bodies g + 2048 * g.segments) = omega arith in
    let a : ws ≡ numbers_in (front ++ read) ++ numbers_in more = numbers_append (bodies g + 2048 * g.segments) (front ++ read) more both in
    let b : numbers_in (front ++ read) ≡ numbers_in front ++ numbers_in read = numbers_append (bodies g) front read lf in
    let all = from_front ws (numbers_in (front ++ read)) (numbers_in more) 0 (subst (λ (xs : List ℕ). AreFrom ws 0 xs) a (from_self ws)) in
    let parts = subst (λ (xs : List ℕ). AreFrom ws 0 xs) b all in
    let n = numbers_in_length front in
    (subst (λ (xs : List ℕ). AreFrom ws 0 xs) (sym e) (from_front ws (numbers_in front) (numbers_in read) 0 parts), from_back ws (numbers_in front) (numbers_in read) 0 (bodies g) (omega arith) parts)

-- ---- where the reading ended

-- too few segments
pub rest_short : (a b c : Option (List ℕ)) (g : Geometry) (front read : List ℕ) (n : ℕ) → GeometryFits g → length front ≡ 8 * bodies g → length read ≡ n → n < 16384 * g.segments
    → TakesFront a b (8 * bodies g) front → TakesFront b c (16384 * g.segments) read
    → (rest : List ℕ) × (length rest ≤ 132185353) × TakesFront a c 132185353 rest × JudgesRest g rest (Err (fault.Length (24 + (8 * bodies g + n)) (image_len g)))
rest_short a b c g front read n fits lf lr few first next =
    let most = total_most_wide g fits in
    let l : length (front ++ read) ≡ 8 * bodies g + n = (let k = length-append front read in omega arith) in
    let t = TakesFront-then a b c (8 * bodies g) (16384 * g.segments) front read first next in
    (front ++ read, omega arith, TakesFront-short a c (8 * bodies g + 16384 * g.segments) 132185353 (front ++ read) t (omega arith) (omega arith), rest_length g (front ++ read) (8 * bodies g + n) l (λ z. omega arith))

-- all of them, and then what was left
pub rest_taken : (a b c d : Option (List ℕ)) (g : Geometry) (front read more : List ℕ) (m : ℕ) → GeometryFits g → length front ≡ 8 * bodies g → length read ≡ 16384 * g.segments → length more ≡ m → m ≤ 132185353 - 8 * total_of g
    → TakesFront a b (8 * bodies g) front → TakesFront b c (16384 * g.segments) read → TakesFront c d (132185353 - 8 * total_of g) more
    → (length (front ++ read ++ more) ≡ 8 * bodies g + 16384 * g.segments + m) × (length (front ++ read ++ more) ≤ 132185353) × TakesFront a d 132185353 (front ++ read ++ more)
rest_taken a b c d g front read more m fits lf lr lm few first next last =
    let most = total_most_wide g fits in
    let k = length-append front read in
    let l : length (front ++ read ++ more) ≡ 8 * bodies g + 16384 * g.segments + m = (let j = length-append (front ++ read) more in omega arith) in
    let t = TakesFront-then a c d (8 * bodies g + 16384 * g.segments) (132185353 - 8 * total_of g) (front ++ read) more (TakesFront-then a b c (8 * bodies g) (16384 * g.segments) front read first next) last in
    let e : 8 * bodies g + 16384 * g.segments + (132185353 - 8 * total_of g) ≡ 132185353 = omega arith in
    (l, omega arith, subst (λ n. TakesFront a d n (front ++ read ++ more)) e t)

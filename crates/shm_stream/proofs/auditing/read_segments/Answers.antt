use Rattle.std.proofs.Common.{◌≡◌, ◌+◌, ◌*◌, ◌++◌, List, ℕ, [], length, length-append, take, refl, sym, ap, subst, ◌∙◌, arith}
use Rattle.std.proofs.lemmas.List.{length-replicate, length-take-le, take_all}
use Rattle.shm_words.specs.Layout.{bodies}
use Rattle.shm_audit.specs.{Images.{numbers, numbers_in}, Tallies.AreFrom}
use Rattle.shm_io.specs.Reading.{TakesFront}
use Rattle.shm_io.proofs.ReadSteps.{TakesFront-none, TakesFront-short, TakesFront-then}
use Rattle.shm_stream.proofs.Pieces.{fed_more, fed_none}
use Rattle.shm_stream.proofs.auditing.read_segments.Goals as goal

pub loop-number-init : goal.loop-number-init
loop-number-init g c = record { size = length-replicate {A = ℕ} 16384 0; count = refl; read = ([], refl, TakesFront-none _, fed_none _ _ _); faults = refl }

pub returns-then-n-lt-SEGMENT-clause-read : goal.returns-then-n-lt-SEGMENT-clause-read
returns-then-n-lt-SEGMENT-clause-read g c =
    let r = c.loop-number.invariant.read in
    let count = c.loop-number.invariant.count in
    let whole = c.loop-number.invariant.size in
    let n = c.in_ok-n.n in
    let piece = take n c.read_full.new.into in
    let few = c.if-n-lt-SEGMENT.true in
    let len = c.read_full.auto.into in
    let s = c.segments-number-end.ensures in
    let l = c.loop-number-test.true in
    let k : length piece ≡ n = length-take-le n c.read_full.new.into (omega arith) in
    let e : length (r.0 ++ piece) ≡ c.loop-number.read + n = length-append r.0 piece ∙ omega (arith, r.1, k) in
    let t = TakesFront-then _ _ _ (16384 * c.loop-number.number) (length c.loop-number.segment) r.0 piece r.2 c.in_ok-n.ensures.front in
    (r.0 ++ piece, e, TakesFront-short _ _ (16384 * c.loop-number.number + length c.loop-number.segment) (16384 * c.args.geometry.segments) (r.0 ++ piece) t (omega (arith, e, few, whole, count)) (omega (arith, whole, s, l)), λ all. absurd (omega (arith, all, count, few, s, l)))

pub loop-number-preserved : goal.loop-number-preserved
loop-number-preserved g c =
    let x = c.args.geometry in
    let r = c.loop-number.invariant.read in
    let count = c.loop-number.invariant.count in
    let whole = c.loop-number.invariant.size in
    let n = c.in_ok-n.n in
    let into = c.read_full.new.into in
    let piece = take n into in
    let all = c.if-n-lt-SEGMENT.false in
    let most = c.in_ok-n.ensures.count in
    let len = c.read_full.auto.into in
    let k : length piece ≡ n = length-take-le n into (omega arith) in
    let e : length (r.0 ++ piece) ≡ c.loop-number.read + n = length-append r.0 piece ∙ omega (arith, r.1, k) in
    let t = TakesFront-then _ _ _ (16384 * c.loop-number.number) (length c.loop-number.segment) r.0 piece r.2 c.in_ok-n.ensures.front in
    let next : 16384 * c.loop-number.number + length c.loop-number.segment ≡ 16384 * (c.loop-number.number + 1) = omega (arith, whole) in
    let part : numbers c.as_chunks.result.0.now ≡ numbers_in piece = ap numbers c.as_chunks.ensures.front ∙ sym (ap numbers_in (take_all n into (omega (arith, len, whole, all)))) in
    record {
      size = len ∙ whole;
      count = omega (arith, count, all, most, whole);
      read = (
        r.0 ++ piece,
        e,
        subst (λ j. TakesFront (g.S.Source.left c.args.source.now) (g.S.Source.left c.read_full.new.source) j (r.0 ++ piece)) next t,
        fed_more x (numbers c.args.front.now) c.args.auditor.now c.loop-number.auditor c.segment.new.self c.loop-number.number r.0 piece (r.1 ∙ count) r.3
            (λ ws f w s. c.segment.ensures ws f (subst (λ (xs : List ℕ). AreFrom ws (bodies x + 2048 * c.loop-number.number) xs) (sym part) w) s),
      );
      faults = c.in_ok-n.ensures.no_fault ∙ c.loop-number.invariant.faults;
    }

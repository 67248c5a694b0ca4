use Rattle.std.proofs.Common.{◌≡◌, ◌+◌, ◌-◌, ◌*◌, ◌/◌, ◌<◌, get_or, sym, ap, subst, ◌∙◌, arith}
use Rattle.shm_words.specs.Layout.{address, bodies, pages}
use Rattle.shm_words.proofs.Placing.{total_small}
use Rattle.shm_audit.specs.{Images.numbers, Streams.{HasPage, Seen}, Tallies.AreFrom}
use Rattle.shm_audit.proofs.{Blocks.page_word, Fronts.{from_word, numbers_length}}
use Rattle.shm_audit.proofs.auditor.Auditor.segment.Goals as goal

pub page-requires-in-loop-p-clause-room : goal.page-requires-in-loop-p-clause-room
unfolding address
page-requires-in-loop-p-clause-room c =
    let t = total_small c.args.geometry c.requires.fits in
    let e = c.body-first.ensures in
    let l = c.requires.segment in
    omega arith

pub loop-p-preserved : goal.loop-p-preserved
unfolding address
loop-p-preserved c = λ ws front words s.
    let g = c.args.geometry in
    let n = c.args.number in
    let p = c.loop-p.p in
    let f : c.body-first.result ≡ bodies g + 2048 * n = (let e = c.body-first.ensures in omega arith) in
    let q : p < 16 = c.loop-p-test.true in
    let l = c.requires.segment in
    let at : c.body-first.result + 128 * c.from.result ≡ bodies g + 2048 * n + 128 * p = (let e = c.from.ensures in omega arith) in
    let len = numbers_length c.args.front.now in
    let w = c.requires.front in
    let a = c.body-first.result + 128 * c.from.result in
    let i : pages g + (a - bodies g) / 128 ≡ c.page.result = (let e = c.page.ensures in omega arith) in
    let x = from_word ws (numbers c.args.front.now) 0 (pages g + (a - bodies g) / 128) (pages g + (a - bodies g) / 128) front (omega arith) (omega arith) in
    let has : HasPage g ws a c.word-class.result = record {
      start = omega arith;
      end = omega arith;
      page = omega arith;
      class = page_word g ws a c.requires.fits (omega arith) (omega arith) ∙ (x ∙ (ap (λ k. get_or (numbers c.args.front.now) k 0) i ∙ sym c.word-class.ensures));
    } in
    let from = subst (λ k. AreFrom ws k (numbers c.args.words.now)) (sym f) words in
    let done = c.page-in-loop-p.ensures ws from has (subst (λ k. Seen g ws k c.loop-p.self) (sym at) (c.loop-p.invariant ws front words s)) in
    let end : a + 128 ≡ bodies g + 2048 * n + 128 * (p + 1) = omega arith in
    subst (λ k. Seen g ws k c.page-in-loop-p.new.self) end done

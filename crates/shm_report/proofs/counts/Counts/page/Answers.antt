use Rattle.std.proofs.Common.{◌≡◌, ◌+◌, ◌*◌, get_or, sym, ap, subst, ◌∙◌, arith}
use Rattle.shm_words.specs.Layout.{bodies, pages, address}
use Rattle.shm_words.proofs.Placing.{total_small}
use Rattle.shm_report.specs.Counts.{Counted, IsPage}
use Rattle.shm_report.proofs.Counting.{counted_flat, is_page, unused_word}
use Rattle.shm_report.proofs.counts.Counts.page.Goals as goal

pub overflow_add-page : goal.overflow_add-page
unfolding address
overflow_add-page c = let e = c.page.ensures in let l = c.requires.page in let t = total_small c.args.geometry c.requires.fits in omega arith

pub overflow_add-first : goal.overflow_add-first
unfolding address
overflow_add-first c = let e = c.body.ensures in let l = c.requires.page in let t = total_small c.args.geometry c.requires.fits in omega arith

pub blocks-requires-clause-page : goal.blocks-requires-clause-page
unfolding address
blocks-requires-clause-page c =
    let g = c.args.geometry in
    let ws = c.args.words.now in
    let p : c.page.result + c.args.page ≡ pages g + c.args.page = (let e = c.page.ensures in omega arith) in
    let f : bodies g + 128 * c.args.page ≡ c.body.result + 128 * c.args.page = (let e = c.body.ensures in omega arith) in
    let word = c.word-class.ensures ∙ ap (λ n. get_or ws n 0) p in
    subst (λ n. IsPage g ws n c.min.result) f (is_page g ws c.args.page c.word-class.result c.min.result c.requires.page word c.if-class-ne0.true c.min.ensures)

pub blocks-requires-clause-counted : goal.blocks-requires-clause-counted
unfolding address
blocks-requires-clause-counted c =
    let g = c.args.geometry in
    let f : bodies g + 128 * c.args.page ≡ c.body.result + 128 * c.args.page = (let e = c.body.ensures in omega arith) in
    subst (λ n. Counted g c.args.words.now n c.args.self.now.live c.args.self.now.refs) f c.requires.counted

pub returns-then-class-ne0 : goal.returns-then-class-ne0
unfolding address
returns-then-class-ne0 c =
    let g = c.args.geometry in
    let e : c.body.result + 128 * c.args.page + 128 ≡ bodies g + 128 * (c.args.page + 1) = (let b = c.body.ensures in omega arith) in
    subst (λ n. Counted g c.args.words.now n c.blocks-then-class-ne0.new.self.live c.blocks-then-class-ne0.new.self.refs) e c.blocks-then-class-ne0.ensures

pub returns-else-class-ne0 : goal.returns-else-class-ne0
unfolding address
returns-else-class-ne0 c =
    let g = c.args.geometry in
    let ws = c.args.words.now in
    let p : pages g + c.args.page ≡ c.page.result + c.args.page = (let e = c.page.ensures in omega arith) in
    let free : get_or ws (pages g + c.args.page) 0 ≡ 0 = ap (λ n. get_or ws n 0) p ∙ (sym c.word-class.ensures ∙ c.if-class-ne0.false) in
    counted_flat g ws (bodies g + 128 * c.args.page) (bodies g + 128 * (c.args.page + 1)) _ _ (omega arith)
    (λ a l m. unused_word g ws c.args.page a c.requires.page free l (omega arith)) c.requires.counted

use Rattle.std.proofs.Common.{◌≡◌, ◌+◌, ◌*◌, get_or, sym, ap, subst, ◌∙◌, arith}
use Rattle.shm_words.specs.{Layout.{bodies, pages, address}, Classes.IsClass}
use Rattle.shm_words.proofs.Placing.{total_small}
use Rattle.shm_graph.specs.Spots.{class_at, classes_in}
use Rattle.shm_audit.specs.Images.{numbers}
use Rattle.shm_audit.proofs.Blocks.{class_of_page}
use Rattle.shm_migrate.specs.Writing.{WritesOn}
use Rattle.shm_migrate.proofs.Writing.{class_small, on_ok, unused_written, used_class}
use Rattle.shm_migrate.proofs.image.push_page.Goals as goal

pub overflow_add-page : goal.overflow_add-page
unfolding address
overflow_add-page c = let e = c.page.ensures in let l = c.requires.page in let t = total_small c.args.geometry c.requires.fits in omega arith

pub returns-then-class-eq0 : goal.returns-then-class-eq0
unfolding address
returns-then-class-eq0 c =
    let g = c.args.geometry in
    let ws = numbers c.args.words.now in
    let p : c.page.result + c.args.page ≡ pages g + c.args.page = (let e = c.page.ensures in omega arith) in
    let free : get_or ws (pages g + c.args.page) 0 ≡ 0 = ap (λ n. get_or ws n 0) (sym p) ∙ (sym c.word-class.ensures ∙ c.if-class-eq0.true) in
    let from = bodies g + 128 * c.args.page + g.clients in
    let e : from + 128 ≡ bodies g + 128 * (c.args.page + 1) + g.clients = omega arith in
    on_ok c.push_unused.result (λ h. subst (WritesOn g ws c.args.image.now.items c.push_unused.new.image.items from) e (h g ws from (λ k l. unused_written g ws c.requires.fits c.requires.narrow c.args.page k c.requires.page free l))) c.push_unused.ensures

pub overflow_add-first : goal.overflow_add-first
unfolding address
overflow_add-first c = let e = c.body.ensures in let l = c.requires.page in let t = total_small c.args.geometry c.requires.fits in omega arith

pub overflow_cast-class : goal.overflow_cast-class
unfolding address
overflow_cast-class c =
    let g = c.args.geometry in
    let ws = numbers c.args.words.now in
    let p : pages g + c.args.page ≡ c.page.result + c.args.page = (let e = c.page.ensures in omega arith) in
    let same : get_or ws (pages g + c.args.page) 0 ≡ c.word-class.result = ap (λ n. get_or ws n 0) p ∙ sym c.word-class.ensures in
    let k = class_small _ (used_class g ws c.requires.fits c.requires.narrow c.args.page c.requires.clean c.requires.page (λ z. c.if-class-eq0.false (sym same ∙ z))) in
    omega arith

pub push_blocks-requires-clause-start : goal.push_blocks-requires-clause-start
unfolding address
push_blocks-requires-clause-start c = let e = c.body.ensures in omega arith

pub push_blocks-requires-clause-end : goal.push_blocks-requires-clause-end
unfolding address
push_blocks-requires-clause-end c = let e = c.body.ensures in let l = c.requires.page in omega arith

pub push_blocks-requires-clause-page : goal.push_blocks-requires-clause-page
unfolding address
push_blocks-requires-clause-page c = let e = c.body.ensures in omega arith

pub push_blocks-requires-clause-class : goal.push_blocks-requires-clause-class
unfolding address
push_blocks-requires-clause-class c =
    let g = c.args.geometry in
    let ws = numbers c.args.words.now in
    let f : c.body.result + 128 * c.args.page ≡ bodies g + 128 * c.args.page = (let e = c.body.ensures in omega arith) in
    let p : pages g + c.args.page ≡ c.page.result + c.args.page = (let e = c.page.ensures in omega arith) in
    ap (class_at g (classes_in g ws)) f
    ∙ (class_of_page g ws c.args.page (bodies g + 128 * c.args.page) c.requires.fits c.requires.page (omega arith) (omega arith)
    ∙ (ap (λ n. get_or ws n 0) p ∙ sym c.word-class.ensures))

pub push_blocks-requires-clause-is_class : goal.push_blocks-requires-clause-is_class
unfolding address
push_blocks-requires-clause-is_class c =
    let g = c.args.geometry in
    let ws = numbers c.args.words.now in
    let p : pages g + c.args.page ≡ c.page.result + c.args.page = (let e = c.page.ensures in omega arith) in
    let same : get_or ws (pages g + c.args.page) 0 ≡ c.word-class.result = ap (λ n. get_or ws n 0) p ∙ sym c.word-class.ensures in
    subst (λ k. IsClass k) same (used_class g ws c.requires.fits c.requires.narrow c.args.page c.requires.clean c.requires.page (λ z. c.if-class-eq0.false (sym same ∙ z)))

pub returns : goal.returns
unfolding address
returns c =
    let g = c.args.geometry in
    let ws = numbers c.args.words.now in
    let f : c.body.result + 128 * c.args.page ≡ bodies g + 128 * c.args.page = (let e = c.body.ensures in omega arith) in
    let e : bodies g + 128 * c.args.page + 128 + g.clients ≡ bodies g + 128 * (c.args.page + 1) + g.clients = omega arith in
    on_ok c.push_blocks.result
    (λ h.
    subst (WritesOn g ws c.args.image.now.items c.push_blocks.new.image.items (bodies g + 128 * c.args.page + g.clients)) e
    (subst (λ n. WritesOn g ws c.args.image.now.items c.push_blocks.new.image.items (n + g.clients) (n + 128 + g.clients)) f h)) c.push_blocks.ensures

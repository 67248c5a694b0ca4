use Rattle.std.proofs.Common.{◌≡◌, ℕ, ◌+◌, ◌-◌, true, false, get_or, sym, ap, subst, ◌∙◌, arith}
use Rattle.std.proofs.lemmas.Bool.{and_parts}
use Rattle.std.specs.Prelude.{Some}
use Rattle.shm_words.specs.{Headers.header_of, Tags.{tag_of, tag_refs}}
use Rattle.shm_graph.proofs.Spots.WordsAt.{block_header}
use Rattle.shm_audit.specs.{Faults.tag_suits, Images.numbers, Tallies.Tallied}
use Rattle.shm_audit.specs.declared.fault.ImageFault.TheVariants as fault
use Rattle.shm_audit.proofs.Blocks.{block_end, block_place, class_above, good_tag, head_named, live_behind, live_head, live_naming, nothing_tag, refs_room}
use Rattle.shm_audit.proofs.Fronts.{from_word, numbers_length}
use Rattle.shm_audit.proofs.Steps.{seen_bad_tag, seen_block, seen_tag, seen_tallied}
use Rattle.shm_audit.proofs.Tallying.{tally_nothing, tally_nothing_to}
use Rattle.shm_audit.proofs.auditor.Auditor.live_block.Goals as goal

pub returns-then-not-suits : goal.returns-then-not-suits
returns-then-not-suits c = λ ws from le h lawful t.
    let g = c.args.geometry in
    let b = c.args.first + c.args.k in
    let n = numbers_length c.args.words.now in
    let m = class_above c.args.class h.sized in
    let w : get_or ws (b + 1) 0 ≡ c.word-tag.result = from_word ws (numbers c.args.words.now) c.args.first (c.args.k + 1) (b + 1) from (omega arith) (omega arith) ∙ sym c.word-tag.ensures in
    let bad : tag_suits g.clients c.args.class (tag_of g.wide (get_or ws (b + 1) 0)) ≡ false =
    ap (λ x. tag_suits g.clients c.args.class (tag_of g.wide x)) w ∙ (ap (λ k. tag_suits g.clients k (tag_of g.wide c.word-tag.result)) (sym c.from.ensures) ∙ (sym c.suits.ensures ∙ c.if-not-suits.true)) in
    let s = seen_bad_tag g ws b c.args.class c.requires.fits h lawful.header t.sound t.tags bad in
    seen_tag g ws (b + c.args.class) c.args.self.now.fault (fault.BadTag (b + 1) c.word-tag.result) c.args.self.now.tally c.requires.fault (s.0, s.1 ∙ ap (λ x. Some (fault.BadTag (b + 1) x)) w)

pub returns : goal.returns
returns c = λ ws from le h lawful t.
    let g = c.args.geometry in
    let b = c.args.first + c.args.k in
    let k = c.args.class in
    let n = numbers_length c.args.words.now in
    let m = class_above k h.sized in
    let w : get_or ws (b + 1) 0 ≡ c.word-tag.result = from_word ws (numbers c.args.words.now) c.args.first (c.args.k + 1) (b + 1) from (omega arith) (omega arith) ∙ sym c.word-tag.ensures in
    let suited : tag_suits g.clients k (tag_of g.wide (get_or ws (b + 1) 0)) ≡ true =
    ap (λ x. tag_suits g.clients k (tag_of g.wide x)) w ∙ (ap (λ j. tag_suits g.clients j (tag_of g.wide c.word-tag.result)) (sym c.from.ensures) ∙ (sym c.suits.ensures ∙ c.if-not-suits.false)) in
    let alive = (and_parts (header_of (get_or ws b 0)).live _ lawful.header).0 in
    let end = block_end g ws b k h in
    let room = refs_room g ws b k h c.requires.fits alive suited in
    let refs = tag_refs g.wide (get_or ws (b + 1) 0) in
    let r : c.from-refs.result ≡ refs = c.from-refs.ensures ∙ (c.refs_in.ensures ∙ ap (tag_refs g.wide) (sym w)) in
    let header = block_header g ws b h.is in
    let one = c.count.ensures g ws c.requires.fits (omega arith) (record {
      live = live_head g ws b k h c.requires.fits alive;
      count = ap (λ x. (header_of x).count) header ∙ lawful.count;
      names = head_named g ws b k h;
      place = block_place g ws b k h;
    }) t.found in
    let two = tally_nothing g ws (b + 1) _ (nothing_tag g ws b k h (good_tag g ws b k h c.requires.fits alive suited)) one in
    let T : ℕ → Type 0 = λ i. Tallied g ws i c.names.new.self in
    let x : b + 1 + 1 ≡ c.args.first + (c.args.k + 2) = omega arith in
    let three = c.names.ensures g ws c.requires.fits (omega arith) from (omega arith) (λ a low high. live_naming g ws b k h c.requires.fits alive suited a (omega arith) (omega arith))
    (subst (λ i. Tallied g ws i c.count.new.self) x two) in
    let y : c.args.first + (c.args.k + 2 + c.from-refs.result) ≡ b + (2 + refs) = omega arith in
    let z : b + (2 + refs) + (k - (2 + refs)) ≡ b + k = omega arith in
    let four = subst T z (tally_nothing_to g ws (k - (2 + refs)) (b + (2 + refs)) c.names.new.self (live_behind g ws b k h c.requires.fits alive suited) (subst T y three)) in
    seen_tallied g ws (b + k) c.args.self.now.fault c.args.self.now.tag c.names.new.self c.requires.fault c.requires.tag (seen_block g ws b k c.requires.fits h lawful.header c.names.new.self t.sound t.tags suited four)

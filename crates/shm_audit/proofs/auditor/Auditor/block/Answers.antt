use Rattle.std.proofs.Common.{◌≡◌, ◌≢◌, ℕ, Bool, ◌+◌, ◌&&◌, ltb, true, false, get_or, refl, sym, ap, ◌∙◌, arith}
use Rattle.std.proofs.lemmas.Bool.{false≢true, true≢false}
use Rattle.std.specs.Prelude.{Option, None, Some, is_some}
use Rattle.shm_words.specs.Headers.{header_of}
use Rattle.shm_audit.specs.{declared.fault.ImageFault.ImageFault, Images.numbers}
use Rattle.shm_audit.specs.declared.fault.ImageFault.TheVariants as fault
use Rattle.shm_audit.proofs.{Blocks.{class_above, free_block}, Fronts.{from_word, numbers_length}}
use Rattle.shm_audit.proofs.Steps.{seen_bad_header, seen_faulty, seen_more_tags, seen_nothing_to, sound_so_far, tallied_so_far}
use Rattle.shm_audit.proofs.auditor.Auditor.block.Goals.{then-head-eq0-via-then-head-eq0, then-head-eq0-via-else-head-eq0+then-is_some}
use Rattle.shm_audit.proofs.auditor.Auditor.block.Goals as goal

none_there : (o : Option ImageFault) → is_some o ≡ false → o ≡ None
none_there None e = refl
none_there (Some x) e = absurd (true≢false e)

some_there : (o : Option ImageFault) → is_some o ≡ true → o ≢ None
some_there None e = absurd (false≢true e)
some_there (Some x) e = λ z. cc

abbrev lawful_word : ℕ → ℕ → Bool
lawful_word n w = (header_of w).live && ltb (header_of w).client n

pub returns-then-head-eq0 : goal.returns-then-head-eq0
returns-then-head-eq0 c = λ ws from le h s.
    let g = c.args.geometry in
    let b = c.args.first + c.args.k in
    elim c.then-head-eq0.branch [
      | then-head-eq0-via-then-head-eq0 w ↦ (
          let n = numbers_length c.args.words.now in
          let m = class_above c.args.class h.sized in
          let x = from_word ws (numbers c.args.words.now) c.args.first c.args.k b from (omega arith) refl in
          seen_nothing_to g ws c.args.class b c.args.self.now.fault c.args.self.now.tag c.args.self.now.tally (free_block g ws b c.args.class h (x ∙ (sym c.word-head.ensures ∙ w.if-head-eq0.true))) s)
      | then-head-eq0-via-else-head-eq0+then-is_some w ↦ seen_faulty g ws b (b + c.args.class) c.args.self.now.fault c.args.self.now.tag c.args.self.now.tally (some_there c.args.self.now.fault (sym (w.if-is_some.ensures))) s
    ]

pub returns-then-not-is_lawful : goal.returns-then-not-is_lawful
returns-then-not-is_lawful c = λ ws from le h s.
    let g = c.args.geometry in
    let b = c.args.first + c.args.k in
    let n = numbers_length c.args.words.now in
    let m = class_above c.args.class h.sized in
    let x = from_word ws (numbers c.args.words.now) c.args.first c.args.k b from (omega arith) refl ∙ sym c.word-head.ensures in
    let bad : lawful_word g.clients (get_or ws b 0) ≡ false = ap (lawful_word g.clients) x ∙ (ap (λ a. a.live && ltb a.client g.clients) (sym c.unpack-header.ensures.is) ∙ sym (c.if-not-is_lawful.ensures)) in
    seen_bad_header g ws b c.args.class c.requires.fits h (sound_so_far g ws b c.args.self.now.fault c.args.self.now.tag c.args.self.now.tally (none_there c.args.self.now.fault (sym (c.if-is_some.ensures))) s) (λ z. c.if-head-eq0.false (sym x ∙ z)) bad
    ∙ ap (λ w. Some (fault.BadHeader b w)) x

pub returns-then-is_none : goal.returns-then-is_none
returns-then-is_none c = λ ws from le h s.
    let g = c.args.geometry in
    let b = c.args.first + c.args.k in
    let n = numbers_length c.args.words.now in
    let m = class_above c.args.class h.sized in
    let x = from_word ws (numbers c.args.words.now) c.args.first c.args.k b from (omega arith) refl ∙ sym c.word-head.ensures in
    c.live_block.ensures ws from le h (record {
      header = ap (lawful_word g.clients) x ∙ (ap (λ a. a.live && ltb a.client g.clients) (sym c.unpack-header.ensures.is) ∙ sym (c.if-not-is_lawful.ensures));
      count = ap (λ w. (header_of w).count) x ∙ ap (λ a. a.count) (sym c.unpack-header.ensures.is);
    }) (tallied_so_far g ws b c.args.self.now.fault c.args.self.now.tag c.args.self.now.tally (none_there c.args.self.now.fault (sym (c.if-is_some.ensures))) (none_there c.args.self.now.tag (c.if-is_none.ensures)) s)

pub returns-else-is_none : goal.returns-else-is_none
returns-else-is_none c = λ ws from le h s.
    let g = c.args.geometry in
    let b = c.args.first + c.args.k in
    let n = numbers_length c.args.words.now in
    let m = class_above c.args.class h.sized in
    let x = from_word ws (numbers c.args.words.now) c.args.first c.args.k b from (omega arith) refl ∙ sym c.word-head.ensures in
    let lawful : lawful_word g.clients (get_or ws b 0) ≡ true = ap (lawful_word g.clients) x ∙ (ap (λ a. a.live && ltb a.client g.clients) (sym c.unpack-header.ensures.is) ∙ sym (c.if-not-is_lawful.ensures)) in
    seen_more_tags g ws b c.args.class c.args.self.now.fault c.args.self.now.tag c.args.self.now.tally c.requires.fits h lawful (none_there c.args.self.now.fault (sym (c.if-is_some.ensures))) (some_there c.args.self.now.tag (c.if-is_none.ensures)) s

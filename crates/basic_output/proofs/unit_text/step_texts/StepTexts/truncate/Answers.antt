use Rattle.std.proofs.Common.{◌<◌, length, subst, sym, arith}
use Rattle.basic_output.specs.Buffers.{buffer_text}
use Rattle.basic_output.specs.StepTexts.{AreTexts}
use Rattle.basic_output.proofs.FrontLaws.{fewer_texts, may_cut, starts_at}
use Rattle.basic_output.proofs.unit_text.step_texts.StepTexts.truncate.Goals as goal

pub truncate-requires : goal.truncate-requires
truncate-requires c =
    let old = c.args.self.now in
    let t = buffer_text old.buffer.text in
    let n = c.requires.0 in
    let ss = c.requires.1.0 in
    let start = c.index.result.now in
    let less : c.args.len < length old.starts.items = omega (arith, c.if-len.true, c.len.ensures, old.starts.ok.0) in
    let cut = may_cut n t c.args.len start ss (starts_at n t old.starts.items old.plain_from ss c.args.len start c.requires.1.1 less c.index.ensures) in
    λ le. (cut.within, λ under big. absurd (omega (arith, cut.slash, big)))

pub returns-then-len-clause-texts : goal.returns-then-len-clause-texts
returns-then-len-clause-texts c = λ n ss are.
    let old = c.args.self.now in
    let cut = buffer_text c.truncate.new.self in
    let left = c.truncate-then-len.new.self.items in
    let less : c.args.len < length old.starts.items = omega (arith, c.if-len.true, c.len.ensures, old.starts.ok.0) in
    subst (λ from. AreTexts n cut left from ss) (sym c.min-self.ensures)
    (fewer_texts n (buffer_text old.buffer.text) cut old.starts.items left old.plain_from ss c.args.len c.index.result.now less c.index.ensures c.truncate.ensures c.truncate-then-len.ensures.items are)

use Rattle.std.proofs.Common.{◌<◌, ◌≤◌, length, drop, ap, refl, ◌∙◌, arith}
use Rattle.std.specs.List.{slice_index}
use Rattle.basic_output.specs.Buffers.{buffer_text}
use Rattle.basic_output.proofs.FrontLaws.{behind, may_cut, none_left, starts_at}
use Rattle.basic_output.proofs.unit_text.step_texts.StepTexts.behind.Goals as goal

pub range_from-requires : goal.range_from-requires
range_from-requires c =
    let t = c.args.self.now in
    let text = buffer_text t.buffer.text in
    let n = c.requires.0 in
    let ss = c.requires.1.0 in
    let start = c.index.result.now in
    let less : c.args.len < length t.starts.items = omega (arith, c.if-len.true, c.len.ensures, t.starts.ok.0) in
    let cut = may_cut n text c.args.len start ss (starts_at n text t.starts.items t.plain_from ss c.args.len start c.requires.1.1 less c.index.ensures) in
    let same = c.as_str.ensures in
    λ some. (omega (arith, cut.within, ap length same), λ under big. absurd (omega (arith, ap (λ u. slice_index u start) same, cut.slash, big)))

pub returns-then-len : goal.returns-then-len
returns-then-len c = λ n ss are all.
    let t = c.args.self.now in
    let start = c.index.result.now in
    let less : c.args.len < length t.starts.items = omega (arith, c.if-len.true, c.len.ensures, t.starts.ok.0) in
    behind n (buffer_text t.buffer.text) c.range_from.result.now t.starts.items t.plain_from ss c.args.len start are all less c.index.ensures (c.range_from.ensures.value ∙ ap (drop start) c.as_str.ensures)

pub returns-else-len : goal.returns-else-len
returns-else-len c = λ n ss are all.
    let over : length ss ≤ c.args.len = omega (arith, all, c.if-len.false, c.len.ensures, c.args.self.now.starts.ok.0) in
    none_left n _ ss c.args.len over refl

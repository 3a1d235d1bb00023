use Rattle.std.proofs.Common.{◌≡◌, sym, ap, ◌∙◌}
use Rattle.std.proofs.lemmas.Result.{on_ok_weaker}
use Rattle.json_doc.specs.Docs.{value}
use Rattle.json_doc.specs.Gathers.{gathered_view}
use Rattle.json_doc.specs.Members.{members_with}
use Rattle.json_doc.proofs.Entries.{put_members}
use Rattle.json_doc.proofs.gathered.Gathered.insert.Goals as goal

pub returns-in-Few : goal.returns-in-Few
returns-in-Few c =
    let before : gathered_view (c.give_way.new.self) ≡ gathered_view c.args.self.now = c.in_ok-give_way.ensures in
    on_ok_weaker c.insert.result
    (λ put. put_members c.args.name.now c.args.member c.in-Few.few c.insert.new.self put
    ∙ ap (members_with c.args.name.now (value c.args.member)) (ap gathered_view (sym c.in-Few.is) ∙ before))
    c.insert.ensures.ok

pub returns-in-Many : goal.returns-in-Many
returns-in-Many c =
    let before : gathered_view (c.give_way.new.self) ≡ gathered_view c.args.self.now = c.in_ok-give_way.ensures in
    on_ok_weaker c.put_in_map.result
    (λ put. put_members c.args.name.now c.args.member c.in-Many.many.entries c.put_in_map.new.many.entries put
    ∙ ap (members_with c.args.name.now (value c.args.member)) (ap gathered_view (sym c.in-Many.is) ∙ before))
    c.put_in_map.ensures

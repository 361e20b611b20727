use Rattle.config_report.proofs.Prelude.{string_bytes, on_ok_weaker}
use Rattle.config_report.proofs.Lines.{then}
use Rattle.config_report.proofs.text.write_directories.Goals as goal

pub returns : goal.returns
returns c =
    let global = c.args.config.now.global in
    let start = string_bytes c.args.out.now in
    let title = string_bytes c.write.new.self in
    let root = string_bytes c.write_named.new.out in
    let services = string_bytes c.write_named-2.new.out in
    let nodes = string_bytes c.write_named-3.new.out in
    on_ok_weaker c.write_named-3.result
    (λ last. then start title nodes _ _ c.in_ok-write.ensures.bytes
    (then title root nodes _ _
    (rw (c.as_str.ensures.value, c.root_path.ensures) at c.in_ok-write_named.ensures)
    (then root services nodes _ _
    (rw (c.directory_text.ensures global.root_path global.service.directory
    c.service_dir-services.ensures) at c.in_ok-write_named-2.ensures)
    (rw (c.directory_text-2.ensures global.root_path global.node.directory
    c.node_dir-nodes.ensures) at last))))
    c.write_named-3.ensures

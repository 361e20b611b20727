use Rattle.std.proofs.Common.{◌≡◌, arith}
use Rattle.iox2_config.specs.declared.config.Config.{Config}
use Rattle.iox2_config_file.specs.declared.section.Section.{Section}
use Rattle.iox2_config_file.specs.declared.section.Section.TheVariants.{Global, Service, Node, PublishSubscribe, Event, RequestResponse, Blackboard}
use Rattle.iox2_config_file.specs.Read.{IsSettingsOf, read_section}
use Rattle.iox2_config_file.specs.Settings.{settings_in}
use Rattle.toml.specs.Data.{Members}
use Rattle.toml.specs.View.{table_view}
use Rattle.iox2_config_file.proofs.read.config.Goals as goal

abbrev Reads : Section → Members → Config → Config → Type 0
Reads s file d c = settings_in s c ≡ read_section s file (settings_in s d)

built : (file : Members) (d c : Config) → Reads Global file d c → Reads Service file d c
    → Reads Node file d c → Reads PublishSubscribe file d c → Reads Event file d c
    → Reads RequestResponse file d c → Reads Blackboard file d c → IsSettingsOf d file c
built file d c global service node publish event request board = grind arith

pub returns : goal.returns
returns c =
    built (table_view c.args.file.now) c.args.default.now _ c.system.ensures.global
    c.system.ensures.service c.system.ensures.node
    (rw c.section_table.ensures at c.publish_subscribe.ensures)
    (rw c.section_table-2.ensures at c.event.ensures)
    (rw c.section_table-3.ensures at c.request_response.ensures)
    (rw c.section_table-4.ensures at c.blackboard.ensures)

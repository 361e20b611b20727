use Rattle.iox2sd_values.proofs.Prelude.{codes, refl}
use Rattle.iox2_config.specs.Defaults.{default_service, default_node}
use Rattle.iox2_config.specs.GlobalSettings.{GlobalSettings}
use Rattle.iox2sd_values.proofs.settings.iox2sd_global_defaults.Goals as goal

pub returns : goal.returns
returns c =
    let whole : GlobalSettings = record {
      root_path = codes "/tmp/iceoryx2/";
      prefix = codes "iox2_";
      service = default_service;
      node = default_node;
      creation_timeout = c.from_millis-timeout.result;
    } in (
      whole,
      record {
        root_path = refl;
        prefix = refl;
        service = refl;
        node = refl;
        creation_timeout = c.from_millis-timeout.ensures;
      },
      rw (c.default.ensures, c.default-2.ensures) at c.global_with.ensures,
    )

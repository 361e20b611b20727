-- The names of the crates below, and of the declared types, that the definitions cite.
pub use Rattle.config_report.specs.declared.finding.Finding.{Finding}
pub use Rattle.config_report.specs.declared.finding.Severity.TheVariants.{Error, Warning}
pub use Rattle.iox2_config.specs.Defaults.{IsDefaultConfig}
pub use Rattle.iox2_config.specs.declared.config.Config.{Config}
pub use Rattle.iox2_config.specs.declared.config.defaults.Defaults.{Defaults}
pub use Rattle.iox2_config.specs.declared.config.global.Service.{Service}
pub use Rattle.iox2_config_file.specs.Read.{Located, fault_view, faults_in, reason_text, sections}
pub use Rattle.iox2_config_file.specs.Settings.{Setting, prefix_of, settings_in, table_path}
pub use Rattle.iox2_config_file.specs.Unknown.{Proposed, Unknown, unknown_in, unknown_view}
pub use Rattle.iox2_config_file.specs.Values.{SettingValue, number, text}
pub use Rattle.iox2_config_file.specs.Write.{IsConfigText, value_text, value_view}
pub use Rattle.iox2_config_file.specs.declared.section.Section.{Section}
pub use Rattle.std.specs.Fmt.{decimal, digits, format_spec, padded}
pub use Rattle.std.specs.List.{All, concat, list_all}
pub use Rattle.std.specs.Str.{IsValidUpTo, bytes_eq, chars}
pub use Rattle.toml_positions.specs.declared.position.Position.{Position}

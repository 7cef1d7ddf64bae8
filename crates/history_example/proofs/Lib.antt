mod LogLaws
